use Rattle.art_tree.proofs.Steps.{has_first}
use Rattle.art_tree.proofs.walk.Walk.new.Goals as goal

pub following_of-following-requires : goal.following_of-following-requires
following_of-following-requires g c = has_first c.tree.inside.leaves.pairs c.law.ensures.distinct c.args.ends c.in-Some.both c.in-Some.is (rw (← c.tree.view_is) at c.requires)
