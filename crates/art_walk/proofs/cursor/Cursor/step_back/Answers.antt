use Rattle.std.proofs.Common.{lit<}
use Rattle.art_walk.proofs.Steps.{has_last, stepped_back}
use Rattle.art_walk.proofs.cursor.Cursor.step_back.Goals as goal

pub without_last-ends-requires : goal.without_last-ends-requires
without_last-ends-requires g c = (lit< tt, has_last c.args.tree.now.pairs c.law.ensures.distinct c.args.self.now.ends (c.in_ok-first.first, c.in_ok-first.last) c.in_ok-first.was c.requires)

pub returns-clause-fits : goal.returns-clause-fits
returns-clause-fits g c =
    (stepped_back c.args.tree.now.pairs c.law.ensures.distinct c.args.self.now.ends (c.in_ok-first.first, c.in_ok-first.last) c.in_ok-first.was c.requires c.without_last-ends.result c.without_last-ends.ensures.one c.without_last-ends.ensures.more).0

pub returns-clause-passes : goal.returns-clause-passes
returns-clause-passes g c =
    let s = stepped_back c.args.tree.now.pairs c.law.ensures.distinct c.args.self.now.ends (c.in_ok-first.first, c.in_ok-first.last) c.in_ok-first.was c.requires c.without_last-ends.result c.without_last-ends.ensures.one c.without_last-ends.ensures.more in
    (s.1, s.2)

pub returns-clause-there : goal.returns-clause-there
returns-clause-there g c = has_last c.args.tree.now.pairs c.law.ensures.distinct c.args.self.now.ends (c.in_ok-first.first, c.in_ok-first.last) c.in_ok-first.was c.requires
