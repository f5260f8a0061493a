use Rattle.std.proofs.Common.{ap, sym, ◌∙◌}
use Rattle.art_kinds.specs.Nodes.{at}
use Rattle.art_tree.proofs.Invariant.Soundness.{rootless, rooted_pairs}
use Rattle.art_tree.proofs.tree.Tree.at_or_before.Goals as goal

pub returns-in-None-clause-some_counted : goal.returns-in-None-clause-some_counted
returns-in-None-clause-some_counted g c = λ some. absurd (some (ap (λ t. t.pairs) (sym c.self.view_is) ∙ rootless g.K.AsBytes.bytes c.self.inside.leaves.pairs (at c.self.inside.skeleton.nodes) c.self.inside.skeleton.root c.self.invariant.shape c.in-None.is))

pub returns-in-Some-clause-empty : goal.returns-in-Some-clause-empty
returns-in-Some-clause-empty g c = λ none. absurd (rooted_pairs g.K.AsBytes.bytes c.self.inside.leaves.pairs (at c.self.inside.skeleton.nodes) c.self.inside.skeleton.root c.in-Some.root c.self.invariant.shape c.in-Some.is (ap (λ t. t.pairs) c.self.view_is ∙ none))
