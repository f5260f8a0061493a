use Rattle.std.proofs.Common.{take}
use Rattle.line_program.specs.Lines.{IsLine}
use Rattle.line_program.proofs.session.first_feed.Given as goal

abbrev pub invariant-loop-at : goal.invariant-loop-at
invariant-loop-at l = IsLine (take l.at l.bytes)
