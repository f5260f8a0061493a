use Rattle.std.proofs.Common.{◌≡◌, ◌≤◌, length}
use Rattle.blart.specs.Words.{pairs, bytes, kept_pair, PutsAll, reserved_map, held, room_left}
use Rattle.caller_tests.proofs.reserving.put_all.Given as goal

abbrev pub invariant-loop-key : goal.invariant-loop-key
invariant-loop-key g l =
    ((reserved_map l.room).ghost_name ≡ (reserved_map l.initial.room).ghost_name)
    × (length l.key-iterator.rest.items ≤ room_left l.room)
    × ((T : _) → PutsAll (bytes g.K.AsBytes.bytes) kept_pair (held l.room) l.key-iterator.rest.items T → PutsAll (bytes g.K.AsBytes.bytes) kept_pair (pairs l.fn.scores) l.fn.batch.items T)
