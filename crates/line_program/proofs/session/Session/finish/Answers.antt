use Rattle.std.proofs.lemmas.Result.{err_from_is_err_and}
use Rattle.line_program.proofs.Ending.{last_none, last_stops, last_sent, no_bytes, some_bytes_left}
use Rattle.line_program.specs.Content.{content_of}
use Rattle.line_program.specs.Session.{state_of}
use Rattle.line_program.proofs.session.Session.finish.Goals as goal

pub returns-then-is_empty : goal.returns-then-is_empty
returns-then-is_empty g c = last_none _ _ _ c.flush.result (state_of c.args.self.now) c.flush.new.self
    (no_bytes c.args.self.now.line.items _ c.args.self.now.line.ok.0 c.if-is_empty.ensures) c.flush.ensures.sent c.flush.ensures.empty

pub returns-in_err-reply : goal.returns-in_err-reply
returns-in_err-reply g c =
    let p = err_from_is_err_and c.from_residual.result c.from_residual.ensures.1 in
    rw (p.1, p.2) (last_stops _ _ _ c.in_err-reply.field-0.0 (state_of c.args.self.now) (state_of c.reply.new.self)
    (some_bytes_left c.args.self.now.line.items _ c.args.self.now.line.ok.0 c.if-is_empty.ensures) c.in_err-reply.ensures)

pub returns : goal.returns
returns g c =
    let h = c.in_ok-reply.ensures in
    last_sent _ _ _ _ c.flush-2.result (state_of c.args.self.now) (content_of c.reply.new.self.map) c.reply.new.self.outbox c.flush-2.new.self
    (some_bytes_left c.args.self.now.line.items _ c.args.self.now.line.ok.0 c.if-is_empty.ensures) h.0 c.flush-2.ensures.sent c.flush-2.ensures.empty
