use Rattle.std.proofs.lemmas.Result.{err_from_is_err_and}
use Rattle.line_program.proofs.Stepping.{reply_stops, reply_goes}
use Rattle.line_program.specs.Content.{content_of}
use Rattle.line_program.specs.Session.{state_of}
use Rattle.line_program.proofs.session.Session.reply.Goals as goal

pub returns-in_err-reply : goal.returns-in_err-reply
returns-in_err-reply g c =
    let p = err_from_is_err_and c.from_residual.result c.from_residual.ensures.1 in
    rw (p.1, p.2) (reply_stops _ _ _ c.in_err-reply.field-0.0 c.deref.result.now c.reply.new.outbox (content_of c.reply.new.map) (state_of c.args.self.now) _ c.deref.ensures.value c.in_err-reply.ensures)

pub returns : goal.returns
returns g c =
    let h = reply_goes _ _ _ tt c.deref.result.now c.reply.new.outbox (content_of c.reply.new.map) (state_of c.args.self.now) c.deref.ensures.value c.in_ok-reply.ensures in
    (h.0, c.clear.ensures.items, h.1)
