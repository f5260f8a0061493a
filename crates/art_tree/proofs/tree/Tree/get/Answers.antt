use Rattle.std.proofs.Common.{List, ap, subst, None, Some, sym, ◌∙◌}
use Rattle.std.specs.Cmp.Lexicographic.{same_text}
use Rattle.art_tree.specs.Calls.Descents.{IsFrontAlone}
use Rattle.art_tree.specs.Leaves.{Numbered}
use Rattle.art_tree.proofs.NumberedPairs.LookUps.{none_at, this_at, not_at, not_text}
use Rattle.art_tree.proofs.tree.Tree.get.Goals as goal

pub returns-in_default-clause-found : goal.returns-in_default-clause-found
returns-in_default-clause-found g c = none_at g.K.AsBytes.bytes c.args.self.now.pairs c.law.ensures.content c.law.ensures.distinct c.args.query.now (subst (λ (S : List (Numbered _ _)). IsFrontAlone g.K.AsBytes.bytes S c.args.query.now None) (ap (λ t. t.pairs) c.self.view_is) c.in_default.ensures.found)

pub returns-then-eq-clause-found : goal.returns-then-eq-clause-found
returns-then-eq-clause-found g c = this_at g.K.AsBytes.bytes c.args.self.now.pairs c.law.ensures.content c.law.ensures.distinct c.args.query.now (c.in-Some.found.0, (c.in-Some.found.1.now, c.in-Some.found.2.now)) (subst (λ (S : List (Numbered _ _)). IsFrontAlone g.K.AsBytes.bytes S c.args.query.now (Some (c.in-Some.found.0, (c.in-Some.found.1.now, c.in-Some.found.2.now)))) (ap (λ t. t.pairs) c.self.view_is) c.in-Some.ensures.found) (sym c.as_bytes.ensures ∙ same_text _ _ c.if-eq.ensures)

pub returns-else-eq-clause-found : goal.returns-else-eq-clause-found
returns-else-eq-clause-found g c = not_at g.K.AsBytes.bytes c.args.self.now.pairs c.law.ensures.content c.law.ensures.distinct c.args.query.now (c.in-Some.found.0, (c.in-Some.found.1.now, c.in-Some.found.2.now)) (subst (λ (S : List (Numbered _ _)). IsFrontAlone g.K.AsBytes.bytes S c.args.query.now (Some (c.in-Some.found.0, (c.in-Some.found.1.now, c.in-Some.found.2.now)))) (ap (λ t. t.pairs) c.self.view_is) c.in-Some.ensures.found) (λ e. not_text (g.K.AsBytes.bytes c.in-Some.found.1.now) c.args.query.now (ap (λ b. Some b) e) (rw c.as_bytes.ensures at c.if-eq.ensures))
