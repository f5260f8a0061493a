use Rattle.std.proofs.Common.{arith}
use Rattle.std.proofs.lemmas.Result.{on_err_weaker}
use Rattle.art_slots.proofs.Packed.{length-vals}
use Rattle.art_slots.proofs.dense.Dense.reserve.Goals as goal

pub returns-clause-room : goal.returns-clause-room
returns-clause-room g c = rw (length-vals c.make_room.new.slab.slots) c.make_room.ensures.room

pub returns-clause-needed : goal.returns-clause-needed
returns-clause-needed g c =
    rw (← c.self.view_is, length-vals c.self.inside.slab.slots) (on_err_weaker c.make_room.result (λ e. omega arith) c.make_room.ensures.needed)
