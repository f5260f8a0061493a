use Rattle.std.proofs.Common.{◌≡◌, ◌++◌, take, false}
use Rattle.hex.specs.Hex.{encode_lower}
use Rattle.line_program.specs.Watched.{watched_inner, watched_failed}
use Rattle.line_program.specs.Sent.{Sends}
use Rattle.line_program.proofs.text.write_digits.Given as goal

abbrev pub invariant-loop-byte : goal.invariant-loop-byte
invariant-loop-byte g l = record {
  sent : Sends (g.W.Write.contents (watched_inner l.initial.writer)) (g.W.Write.contents (watched_inner l.writer)) (l.initial.outbox ++ encode_lower (take l.byte-index l.key)) l.outbox;
  mark : watched_failed l.writer ≡ false;
}
