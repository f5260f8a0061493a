use Rattle.std.proofs.Common.{◌≡◌, ◌<◌, ◌≤◌, ℕ, None}
use Rattle.art_kinds.specs.Edges.{child_at, Ascends}
use Rattle.art_kinds.proofs.records.few.Few+16.of_indexed.Given as goal

abbrev pub invariant-loop-next : goal.invariant-loop-next
invariant-loop-next l = record {
  below : (c : ℕ) → c < l.next → child_at l.edges c ≡ child_at l.indexed c;
  above : (c : ℕ) → l.next ≤ c → child_at l.edges c ≡ None;
  ascends : Ascends l.edges;
}
