use Rattle.art_tree.proofs.Invariant.Soundness.{sound_empty}
use Rattle.art_tree.proofs.tree.Tree.new.Goals as goal

pub invariant_of-result : goal.invariant_of-result
invariant_of-result g c = sound_empty g.K.AsBytes.bytes c.new.result c.new-2.result c.new.ensures.pairs c.new-2.ensures.none
