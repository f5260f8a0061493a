use Rattle.std.proofs.Common.{◌≡◌, take}
use Rattle.art_kinds.proofs.records.indexed.Indexed.of_sixteen.Given as goal

abbrev pub invariant-loop-i : goal.invariant-loop-i
invariant-loop-i l = l.edges ≡ take l.i l.sixteen
