use Rattle.std.proofs.Common.{◌≡◌, ◌+◌, ◌≤◌, ◌++◌, false, length, map}
use Rattle.line_program.specs.Watched.{watched_inner, watched_failed}
use Rattle.line_program.specs.Content.{by_bytes}
use Rattle.line_program.specs.Sent.{Sends}
use Rattle.line_program.proofs.Listing.{lines_text, seen}
use Rattle.line_program.proofs.replies.write_listing.Given as goal

abbrev pub invariant-loop-key : goal.invariant-loop-key
invariant-loop-key g l = record {
  count : l.count ≡ length l.yielded;
  fits : l.count + (goal.iterator-loop-key g).remaining l.key-iterator ≤ (goal.iterator-loop-key g).remaining l.initial.key-iterator;
  sent : Sends (g.W.Write.contents (watched_inner l.initial.writer)) (g.W.Write.contents (watched_inner l.writer)) (l.initial.outbox ++ lines_text (by_bytes (map seen l.yielded))) l.outbox;
  mark : watched_failed l.writer ≡ false;
}
