use Rattle.std.proofs.Common.{◌≡◌, drop}
use Rattle.art_kinds.specs.Edges.{before, paired}
use Rattle.art_kinds.proofs.EdgeNexts.{laid}
use Rattle.art_kinds.proofs.records.few.before_in.Given as goal

abbrev pub invariant-loop-i : goal.invariant-loop-i
invariant-loop-i l = before (paired l.bytes l.children) l.byte ≡ laid (before (drop l.i (paired l.bytes l.children)) l.byte) l.found
