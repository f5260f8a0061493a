use Rattle.std.proofs.Common.{lit<}
use Rattle.art_walk.proofs.Steps.{has_first, stepped}
use Rattle.art_walk.proofs.cursor.Cursor.step.Goals as goal

pub without_first-ends-requires : goal.without_first-ends-requires
without_first-ends-requires g c = (lit< tt, has_first c.args.tree.now.pairs c.law.ensures.distinct c.args.self.now.ends (c.in_ok-first.first, c.in_ok-first.last) c.in_ok-first.was c.requires)

pub returns-clause-fits : goal.returns-clause-fits
returns-clause-fits g c =
    (stepped c.args.tree.now.pairs c.law.ensures.distinct c.args.self.now.ends (c.in_ok-first.first, c.in_ok-first.last) c.in_ok-first.was c.requires c.without_first-ends.result c.without_first-ends.ensures.one c.without_first-ends.ensures.more).0

pub returns-clause-passes : goal.returns-clause-passes
returns-clause-passes g c =
    let s = stepped c.args.tree.now.pairs c.law.ensures.distinct c.args.self.now.ends (c.in_ok-first.first, c.in_ok-first.last) c.in_ok-first.was c.requires c.without_first-ends.result c.without_first-ends.ensures.one c.without_first-ends.ensures.more in
    (s.1, s.2)

pub returns-clause-there : goal.returns-clause-there
returns-clause-there g c = has_first c.args.tree.now.pairs c.law.ensures.distinct c.args.self.now.ends (c.in_ok-first.first, c.in_ok-first.last) c.in_ok-first.was c.requires
