use Rattle.std.proofs.Common.{refl}
use Rattle.art_tree.specs.Leaves.{without_number, keys_in}
use Rattle.art_tree.proofs.NumberedPairs.KeyChanges.{loses_from}
use Rattle.art_rows.proofs.CallerLemmas.{others-without_number, leaf_in-without_now}
use Rattle.art_tree.proofs.NumberedPairs.Changes.{content_without}
use Rattle.art_tree.proofs.Invariant.Soundness.{sound_same}
use Rattle.art_tree.proofs.tree.remove.take_leaf.Goals as goal

pub returns-clause-sound : goal.returns-clause-sound
returns-clause-sound g c =
    let old = c.args.leaves.now.pairs in
    let i = c.args.path.now.id in
    let kb = g.K.AsBytes.bytes in
    let new = without_number old i in
    let loses = loses_from kb old new i (others-without_number old i c.law.ensures.distinct) c.remove.result c.remove.ensures.value (leaf_in-without_now old i c.law.ensures.distinct) in
    sound_same kb (record c.args.leaves.now { pairs = new }) c.remove.new.self c.unlink.new.self.nodes c.unlink.new.self.nodes c.unlink.new.self.root
    (record { content = content_without kb old i c.requires.sound.content; shape = c.unlink.ensures (keys_in kb new) (kb c.remove.result.0) loses }) c.remove.ensures.rest (λ j. refl)
