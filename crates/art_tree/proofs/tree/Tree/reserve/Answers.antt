use Rattle.std.proofs.Common.{refl}
use Rattle.art_tree.proofs.Invariant.Soundness.{sound_same}
use Rattle.art_tree.proofs.tree.Tree.reserve.Goals as goal

pub invariant_of-self-2 : goal.invariant_of-self-2
invariant_of-self-2 g c =
    let i = c.self.inside in
    sound_same g.K.AsBytes.bytes i.leaves _ i.skeleton.nodes c.reserve-2.new.self i.skeleton.root c.self.invariant c.in_ok-reserve.ensures.pairs c.reserve-2.ensures.same

pub invariant_of-self : goal.invariant_of-self
invariant_of-self g c = sound_same g.K.AsBytes.bytes c.self.inside.leaves _ c.self.inside.skeleton.nodes c.self.inside.skeleton.nodes c.self.inside.skeleton.root c.self.invariant c.in_err-reserve.ensures.pairs (λ j. refl)
