use Rattle.std.proofs.Common.{arith}
use Rattle.std.proofs.lemmas.Result.{err_from_is_err_and}
use Rattle.line_program.proofs.Stepping.{grow_stops, some_bytes, feed_stops, feed_serves, rest_serves}
use Rattle.line_program.specs.Session.{state_of}
use Rattle.line_program.proofs.session.Session.step.Goals as goal

pub returns-in_err-grow-in-Some : goal.returns-in_err-grow-in-Some
returns-in_err-grow-in-Some g c =
    let p = err_from_is_err_and c.from_residual.result c.from_residual.ensures.1 in
    let bytes = c.args.bytes.now in
    rw (p.1, p.2) (grow_stops _ _ _ c.in_err-grow-in-Some.field-0.0 c.front.result.now bytes (state_of c.args.self.now) (state_of c.grow.new.self)
    c.requires.line (some_bytes bytes c.requires.some) c.in_err-grow-in-Some.ensures)

pub returns-in_err-reply-in-Some : goal.returns-in_err-reply-in-Some
returns-in_err-reply-in-Some g c =
    let r = c.from_residual-in_err-reply-in-Some in
    let p = err_from_is_err_and r.result r.ensures.1 in
    let grown = c.in_ok-grow-in-Some.ensures in
    let found = c.in-Some.ensures in
    rw (p.1, p.2) (feed_stops _ _ _ _ c.in_err-reply-in-Some.field-0.0 c.in-Some.at c.front.result.now c.args.bytes.now (state_of c.args.self.now) (state_of c.grow.new.self)
    (state_of c.reply.new.self) c.front.ensures grown.0 grown.1 found.0 found.1 found.2 c.requires.line c.in_err-reply-in-Some.ensures)

pub returns-in_err-grow-in-None : goal.returns-in_err-grow-in-None
returns-in_err-grow-in-None g c =
    let r = c.from_residual-in_err-grow-in-None in
    let p = err_from_is_err_and r.result r.ensures.1 in
    let bytes = c.args.bytes.now in
    rw (p.1, p.2) (grow_stops _ _ _ c.in_err-grow-in-None.field-0.0 bytes bytes (state_of c.args.self.now) (state_of c.grow-in-None.new.self)
    c.requires.line (some_bytes bytes c.requires.some) c.in_err-grow-in-None.ensures)

pub returns-in_ok-reply-in-Some : goal.returns-in_ok-reply-in-Some
returns-in_ok-reply-in-Some g c =
    let grown = c.in_ok-grow-in-Some.ensures in
    let found = c.in-Some.ensures in
    let replied = c.in_ok-reply-in-Some.ensures in (
      omega arith,
      omega (arith, found.0),
      feed_serves _ _ _ c.in-Some.at c.front.result.now c.args.bytes.now (state_of c.args.self.now) (state_of c.grow.new.self)
          (state_of c.reply.new.self) c.front.ensures grown.0 grown.1 found.0 found.1 found.2 c.requires.line replied.0 replied.1,
      replied.2,
    )

pub returns-in_ok-grow-in-None : goal.returns-in_ok-grow-in-None
returns-in_ok-grow-in-None g c =
    let grown = c.in_ok-grow-in-None.ensures in (
      c.requires.some,
      omega arith,
      rest_serves _ _ c.args.bytes.now (state_of c.args.self.now) (state_of c.grow-in-None.new.self) grown.0 grown.1 c.in-None.ensures c.requires.line,
      grown.2,
    )
