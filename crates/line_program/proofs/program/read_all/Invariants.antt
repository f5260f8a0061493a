use Rattle.std.proofs.Common.{◌≡◌, ◌≤◌, ℕ, List, [], length, false}
use Rattle.std.specs.Io.KnownBytes.{Consumes}
use Rattle.line_program.specs.Watched.{watched_inner, watched_failed, watched_ended, watched_read_again}
use Rattle.line_program.specs.Serves.{Serves}
use Rattle.line_program.specs.Session.{state_of}
use Rattle.line_program.proofs.program.read_all.Given as goal

abbrev pub invariant-loop-turn : goal.invariant-loop-turn
invariant-loop-turn g l = record {
  read : List ℕ;
  came : Consumes (g.R.Read.remaining (watched_inner l.initial.reader)) (g.R.Read.remaining (watched_inner l.reader)) read;
  turns : l._turn ≤ length read;
  served : Serves (g.W.Write.contents (watched_inner l.initial.writer)) (g.W.Write.contents (watched_inner l.writer)) read (state_of l.initial.session) (state_of l.session);
  none : l.session.outbox ≡ [];
  reader_mark : watched_failed l.reader ≡ false;
  writer_mark : watched_failed l.writer ≡ false;
  once : watched_ended l.initial.reader ≡ false → (watched_ended l.reader ≡ false) × (watched_read_again l.reader ≡ watched_read_again l.initial.reader);
}
