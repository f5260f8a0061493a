use Rattle.std.proofs.Common.{◌≡◌, drop}
use Rattle.art_kinds.specs.Edges.{child_at, paired}
use Rattle.art_kinds.proofs.records.few.find_in.Given as goal

abbrev pub invariant-loop-i : goal.invariant-loop-i
invariant-loop-i l = child_at (paired l.bytes l.children) l.byte ≡ child_at (drop l.i (paired l.bytes l.children)) l.byte
