use Rattle.std.specs.Vec.Iter.{into_iter_items, into_iter_len}
use Rattle.std.proofs.Common.{◌≡◌, ◌≤◌, ◌+◌, List, ◌++◌, length, vec_len, vec_capacity}
use Rattle.blart_keys.specs.Steps.{Run}
use Rattle.blart_keys.specs.declared.calls.Call.{Call}
use Rattle.blart_map.specs.Content.{pairs}
use Rattle.blart_map.proofs.calls.drive.Given as goal

abbrev pub invariant-calls : goal.invariant-calls
invariant-calls g l = record {
  done : List (Call g.row.K.Denot g.row.V.Denot);
  whole : l.fn.calls.items ≡ done ++ into_iter_items l.call-iterator;
  run : Run g.K.AsBytes.bytes (pairs l.initial.map) done l.replies.items (pairs l.map);
  counted : into_iter_len l.call-iterator ≡ length (into_iter_items l.call-iterator);
  room : vec_len l.replies + into_iter_len l.call-iterator ≤ vec_capacity l.replies;
}
