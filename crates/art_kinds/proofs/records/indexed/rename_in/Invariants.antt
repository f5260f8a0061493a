use Rattle.std.proofs.Common.{◌≡◌, ◌<◌, ◌≤◌, get_or, ℕ}
use Rattle.art_kinds.specs.Edges.{moved}
use Rattle.art_kinds.proofs.records.indexed.rename_in.Given as goal

abbrev pub invariant-loop-place : goal.invariant-loop-place
invariant-loop-place l = record {
  done : (b : ℕ) → b < l.place-index → get_or l.index b 48 ≡ moved l.from l.to (get_or l.initial.index b 48);
  left : (b : ℕ) → l.place-index ≤ b → get_or l.index b 48 ≡ get_or l.initial.index b 48;
}
