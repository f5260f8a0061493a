use Rattle.std.proofs.Common.{◌+◌, ◌∙◌, Ok, Err, ap, sym, append-nil, take, drop, take-append-drop, get_or}
use Rattle.hex.specs.Hex.{encode_lower}
use Rattle.std.proofs.lemmas.Result.{err_from_is_err_and}
use Rattle.line_program.proofs.Sending.{Sends-none, IsSent-part, IsSent-then}
use Rattle.line_program.proofs.Digits.{digits_of, encode-none, encode-more, encode-append}
use Rattle.line_program.proofs.text.write_digits.Goals as goal

pub loop-byte-init : goal.loop-byte-init
loop-byte-init g c = record { sent = rw (encode-none, append-nil) (Sends-none _ c.args.outbox.now); mark = c.requires }

pub returns-in_err-write_byte : goal.returns-in_err-write_byte
returns-in_err-write_byte g c =
    let p = err_from_is_err_and c.from_residual.result c.from_residual.ensures.1 in
    let key = c.args.key.now in
    let i = c.loop-byte.byte-index in
    let digits = digits_of (get_or key i 0) in
    let error = c.in_err-write_byte.field-0.0 in
    let rest = c.write_byte.new.outbox in
    let h = IsSent-then _ _ _ _ c.args.outbox.now (encode_lower (take i key)) c.loop-byte.outbox rest (Err error) digits c.loop-byte.invariant.sent c.in_err-write_byte.ensures in
    let more = rw (← (encode-more key i c.loop-byte-test.true)) at h in
    let whole = ap encode_lower (sym (take-append-drop (i + 1) key)) ∙ encode-append (take (i + 1) key) (drop (i + 1) key) in
    rw (p.1, p.2) (IsSent-part _ _ _ error c.args.outbox.now (encode_lower (take (i + 1) key)) (encode_lower (drop (i + 1) key)) (encode_lower key) rest rest whole more)

pub loop-byte-preserved : goal.loop-byte-preserved
loop-byte-preserved g c =
    let key = c.args.key.now in
    let i = c.loop-byte.byte-index in
    let digits = digits_of (get_or key i 0) in
    let h = IsSent-then _ _ _ _ c.args.outbox.now (encode_lower (take i key)) c.loop-byte.outbox c.write_byte.new.outbox (Ok tt) digits c.loop-byte.invariant.sent c.in_ok-write_byte.ensures in
    record { sent = rw (encode-more key i c.loop-byte-test.true) h.0; mark = h.1 }
