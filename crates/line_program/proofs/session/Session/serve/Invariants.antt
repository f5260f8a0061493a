use Rattle.std.proofs.Common.{length, ◌-◌, ◌≡◌, ◌≤◌, take, false}
use Rattle.line_program.specs.Watched.{watched_inner, watched_failed}
use Rattle.line_program.specs.Serves.{Serves}
use Rattle.line_program.specs.Session.{state_of}
use Rattle.line_program.proofs.session.Session.serve.Given as goal

abbrev pub invariant-loop-done : goal.invariant-loop-done
invariant-loop-done g l = record {
  within : l.done ≤ length l.bytes;
  served : Serves (g.W.Write.contents (watched_inner l.initial.writer)) (g.W.Write.contents (watched_inner l.writer)) (take l.done l.bytes) (state_of l.initial.self) (state_of l.self);
  mark : watched_failed l.writer ≡ false;
}

abbrev pub decreases-loop-done : goal.decreases-loop-done
decreases-loop-done g l = length l.bytes - l.done
