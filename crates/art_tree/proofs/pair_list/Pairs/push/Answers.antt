use Rattle.std.proofs.Common.{[], ◌∷◌, ◌++◌, ap, ◌∙◌}
use Rattle.art_tree.proofs.PairLists.{pushed}
use Rattle.art_tree.proofs.pair_list.Pairs.push.Goals as goal

pub returns-clause-pushed : goal.returns-clause-pushed
returns-clause-pushed g c =
    pushed c.self.inside.leaves.pairs c.push-id.new.self.pairs c.push-id.result (c.args.key, c.args.value) c.law.ensures.distinct c.push-id.ensures.placed ∙ ap (λ t. t.pairs ++ (c.args.key, c.args.value) ∷ []) c.self.view_is
