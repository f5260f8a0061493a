use Rattle.line_program.proofs.session.first_feed.Goals as goal

pub returns-then-byte-eq10 : goal.returns-then-byte-eq10
returns-then-byte-eq10 c = (c.loop-at-test.true, c.if-byte-eq10.true, c.loop-at.invariant)
