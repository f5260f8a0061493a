use Rattle.std.proofs.Common.{refl}
use Rattle.art_tree.proofs.Invariant.Soundness.{sound_same}
use Rattle.art_tree.proofs.tree.Tree.make_room.Goals as goal

pub invariant_of-self-in-Free-1 : goal.invariant_of-self-in-Free-1
invariant_of-self-in-Free-1 g c = sound_same g.K.AsBytes.bytes c.self.inside.leaves c.make_room_beside.new.leaves c.self.inside.skeleton.nodes c.make_room_beside.new.nodes c.self.inside.skeleton.root c.self.invariant c.make_room_beside.ensures.pairs c.make_room_beside.ensures.nodes

pub invariant_of-self : goal.invariant_of-self
invariant_of-self g c = sound_same g.K.AsBytes.bytes c.self.inside.leaves c.reserve.new.self c.self.inside.skeleton.nodes c.self.inside.skeleton.nodes c.self.inside.skeleton.root c.self.invariant c.reserve.ensures.pairs (λ j. refl)
