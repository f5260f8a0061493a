use Rattle.std.proofs.Common.{ap, sym, ◌∙◌}
use Rattle.art_tree.specs.Seeks.{ends}
use Rattle.art_rows.proofs.CallerLemmas.{no_last}
use Rattle.art_tree.proofs.NumberedPairs.Bounds.{ends_are}
use Rattle.art_tree.proofs.tree.Tree.ends.Goals as goal

pub returns-in_default-last : goal.returns-in_default-last
returns-in_default-last g c = sym (ap (λ S. ends S) (no_last c.args.self.now.pairs (sym c.last.ensures ∙ c.in_default-last.is)))

pub returns : goal.returns
returns g c = sym (ends_are c.args.self.now.pairs c.in-Some.first c.in-Some-last.last (sym c.first.ensures ∙ c.in-Some.is) (sym c.last.ensures ∙ c.in-Some-last.is))
