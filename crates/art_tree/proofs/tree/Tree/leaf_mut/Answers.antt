use Rattle.art_tree.proofs.NumberedPairs.Numbers.{keys_in-with_value}
use Rattle.art_tree.proofs.NumberedPairs.Changes.{content_with_value}
use Rattle.art_tree.proofs.Invariant.Soundness.{sound_over}
use Rattle.art_tree.proofs.tree.Tree.leaf_mut.Goals as goal

pub invariant_of-self-lent : goal.invariant_of-self-lent
invariant_of-self-lent g c w =
    let key_bytes = g.K.AsBytes.bytes in
    let i = c.self.inside in
    let old = i.leaves.pairs in
    let same = keys_in-with_value key_bytes old c.args.id w in
    sound_over key_bytes i.leaves _ i.skeleton.nodes i.skeleton.root c.self.invariant (content_with_value key_bytes old c.args.id w c.self.invariant.content) same
