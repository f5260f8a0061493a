use Rattle.std.proofs.Common.{◌≡◌, drop}
use Rattle.art_kinds.specs.Edges.{after, paired}
use Rattle.art_kinds.proofs.records.few.after_in.Given as goal

abbrev pub invariant-loop-i : goal.invariant-loop-i
invariant-loop-i l = after (paired l.bytes l.children) l.byte ≡ after (drop l.i (paired l.bytes l.children)) l.byte
