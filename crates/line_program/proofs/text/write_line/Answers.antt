use Rattle.std.proofs.lemmas.Result.{err_from_is_err_and}
use Rattle.line_program.proofs.Sending.{IsSent-longer}
use Rattle.line_program.proofs.text.write_line.Goals as goal

pub returns-in_err-make_room : goal.returns-in_err-make_room
returns-in_err-make_room g c =
    let p = err_from_is_err_and c.from_residual.result c.from_residual.ensures.1 in
    rw (p.1, p.2) (IsSent-longer _ _ _ c.in_err-make_room.field-0.0 _ c.make_room.new.self _ c.make_room.new.self c.in_err-make_room.ensures.sent)
