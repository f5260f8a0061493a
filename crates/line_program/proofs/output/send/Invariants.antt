use Rattle.std.proofs.Common.{length, ◌-◌, ◌≡◌, ◌≤◌, drop, false}
use Rattle.line_program.specs.Watched.{watched_inner, watched_failed}
use Rattle.line_program.specs.Sent.{Sends}
use Rattle.line_program.proofs.output.send.Given as goal

abbrev pub invariant-loop-sent : goal.invariant-loop-sent
invariant-loop-sent g l = record {
  within : l.sent ≤ length l.bytes;
  sent : Sends (g.W.Write.contents (watched_inner l.initial.writer)) (g.W.Write.contents (watched_inner l.writer)) l.bytes (drop l.sent l.bytes);
  mark : watched_failed l.writer ≡ false;
}

abbrev pub decreases-loop-sent : goal.decreases-loop-sent
decreases-loop-sent g l = length l.bytes - l.sent
