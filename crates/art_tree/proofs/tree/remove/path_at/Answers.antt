use Rattle.std.proofs.Common.{ap, option_map, Some, sym, ◌∙◌}
use Rattle.std.specs.Cmp.Lexicographic.{same_text}
use Rattle.art_tree.proofs.NumberedPairs.LookUps.{none_at, this_at, not_at, not_text}
use Rattle.art_tree.proofs.tree.remove.path_at.Goals as goal

pub returns-in_default-clause-found : goal.returns-in_default-clause-found
returns-in_default-clause-found g c = ap (option_map (λ p. p.0)) (none_at g.K.AsBytes.bytes c.args.leaves.now.pairs c.requires.content c.law.ensures.distinct c.args.query.now c.in_default.ensures.found)

pub returns-then-eq-clause-found : goal.returns-then-eq-clause-found
returns-then-eq-clause-found g c = ap (option_map (λ p. p.0)) (this_at g.K.AsBytes.bytes c.args.leaves.now.pairs c.requires.content c.law.ensures.distinct c.args.query.now (c.in-Some.path.id, (c.in-Some.key.now, c.in-Some.field-0-2.now)) c.in-Some.ensures.found (sym c.as_bytes.ensures ∙ same_text _ _ c.if-eq.ensures))

pub returns-else-eq-clause-found : goal.returns-else-eq-clause-found
returns-else-eq-clause-found g c = ap (option_map (λ p. p.0)) (not_at g.K.AsBytes.bytes c.args.leaves.now.pairs c.requires.content c.law.ensures.distinct c.args.query.now (c.in-Some.path.id, (c.in-Some.key.now, c.in-Some.field-0-2.now)) c.in-Some.ensures.found (λ e. not_text (g.K.AsBytes.bytes c.in-Some.key.now) c.args.query.now (ap (λ b. Some b) e) (rw c.as_bytes.ensures at c.if-eq.ensures)))
