use Rattle.std.proofs.Common.{◌∷◌, [], append_assoc}
use Rattle.std.proofs.lemmas.Result.{err_from_is_err_and}
use Rattle.std.specs.Prelude.{decimal}
use Rattle.line_program.specs.Results.{key_text, pair_text}
use Rattle.line_program.specs.Lines.{ended}
use Rattle.line_program.proofs.Sending.{IsSent-part, IsSent-then}
use Rattle.line_program.proofs.text.write_pair.Goals as goal

pub returns-in_err-write_key : goal.returns-in_err-write_key
returns-in_err-write_key g c =
    let p = err_from_is_err_and c.from_residual.result c.from_residual.ensures.1 in
    let key = key_text c.args.key.now in
    let value = 32 ∷ ended (decimal c.args.value) in
    let whole = append_assoc key (32 ∷ decimal c.args.value) (10 ∷ []) in
    rw (p.1, p.2) (IsSent-part _ _ _ c.in_err-write_key.field-0.0 c.args.outbox.now key value (ended (pair_text (c.args.key.now, c.args.value))) c.write_key.new.outbox c.write_key.new.outbox whole c.in_err-write_key.ensures)

pub returns : goal.returns
returns g c =
    let key = key_text c.args.key.now in
    let value = 32 ∷ ended (decimal c.args.value) in
    let h = IsSent-then _ _ _ _ c.args.outbox.now key c.write_key.new.outbox c.write_value.new.outbox c.write_value.result value c.in_ok-write_key.ensures.0 c.write_value.ensures in
    rw (append_assoc key (32 ∷ decimal c.args.value) (10 ∷ [])) h
