use Rattle.art_rows.proofs.CallerLemmas.{others-without_number, leaf_in-without_now}
use Rattle.art_tree.proofs.tree.Tree.remove.Goals as goal

pub returns-clause-others : goal.returns-clause-others
returns-clause-others g c =
    rw (← c.self.view_is, c.take_leaf.ensures.rest, c.path_of-path.ensures.same) (others-without_number c.self.inside.leaves.pairs c.args.id c.law.ensures.distinct)

pub returns-clause-gone : goal.returns-clause-gone
returns-clause-gone g c = rw (c.take_leaf.ensures.rest, c.path_of-path.ensures.same) (leaf_in-without_now c.self.inside.leaves.pairs c.args.id c.law.ensures.distinct)
