use Rattle.std.proofs.Common.{◌≡◌, ◌+◌, drop}
use Rattle.art_kinds.specs.Edges.{count_below}
use Rattle.art_kinds.proofs.records.few.place_of.Given as goal

abbrev pub invariant-loop-next : goal.invariant-loop-next
invariant-loop-next l = record {
  here : l.place ≡ l.next-index;
  left : count_below l.bytes l.byte ≡ l.place + count_below (drop l.next-index l.bytes) l.byte;
}
