use Rattle.std.proofs.Common.{rules}
use Rattle.caller_tests.proofs.lending.visit_below.Goals as goal

-- the pairs that the walk has left are those below the prefix
pub returns : goal.returns
returns g c = c.for_each.ensures.each c.args.scores.now _ _ (c.prefix_mut.ensures.unchanged, c.prefix_mut.ensures.left) (search rules)
