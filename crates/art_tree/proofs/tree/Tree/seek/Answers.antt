use Rattle.std.proofs.Common.{◌≡◌, ℕ, Bool, List, refl, ap, sym, ◌∙◌, Option}
use Rattle.std.specs.declared.ops.Bound.{Bound}
use Rattle.blart_keys.specs.Bounds.{bound_bytes}
use Rattle.art_tree.specs.Leaves.{Numbered, bytes}
use Rattle.art_tree.specs.Seeks.{number_within}
use Rattle.art_tree.proofs.NumberedPairs.Bounds.{number_within_all_start, number_within_all_end, number_within_at, number_within_after, number_within_before, number_within_included, number_within_excluded}
use Rattle.art_rows.proofs.CallerLemmas.{no_last}
use Rattle.art_tree.proofs.tree.Tree.seek.Goals as goal

-- the number within an equal bound on an equal side
told : {K V : Type 0} (kb : K → List ℕ) (S : List (Numbered K V)) {b d : Bound (List ℕ)} {side to : Bool} {r : Option ℕ} → b ≡ d → side ≡ to →
    number_within (bytes kb) S d to ≡ r → r ≡ number_within (bytes kb) S b side
told kb S {d = d} {side = side} e f h = sym (ap (λ (z : Bound (List ℕ)). number_within (bytes kb) S z side) e ∙ ap (number_within (bytes kb) S d) f ∙ h)

pub returns-then-is_start-clause-found : goal.returns-then-is_start-clause-found
returns-then-is_start-clause-found g c =
    let h = number_within_all_start g.K.AsBytes.bytes c.args.self.now.pairs c.law.ensures.content c.law.ensures.distinct in
    told g.K.AsBytes.bytes c.args.self.now.pairs (ap (bound_bytes (λ (b : List ℕ). b)) c.in-Unbounded.is) c.if-is_start.true (h ∙ sym c.first.ensures)

pub returns-else-is_start-clause-found : goal.returns-else-is_start-clause-found
returns-else-is_start-clause-found g c =
    let h = number_within_all_end g.K.AsBytes.bytes c.args.self.now.pairs c.law.ensures.content c.law.ensures.distinct in
    told g.K.AsBytes.bytes c.args.self.now.pairs (ap (bound_bytes (λ (b : List ℕ). b)) c.in-Unbounded.is) c.if-is_start.false (h ∙ sym c.last.ensures)

pub returns-in-Ok-clause-found : goal.returns-in-Ok-clause-found
returns-in-Ok-clause-found g c =
    let h = number_within_at g.K.AsBytes.bytes c.args.self.now.pairs c.law.ensures.content c.law.ensures.distinct in
    let found = h c.in-Included.query.now c.in-Ok.id c.in-Ok.ensures.stands c.args.is_start in
    told g.K.AsBytes.bytes c.args.self.now.pairs (ap (bound_bytes (λ (b : List ℕ). b)) c.in-Included.is) refl found

pub returns-in-Err-clause-found : goal.returns-in-Err-clause-found
returns-in-Err-clause-found g c =
    let h = number_within_included g.K.AsBytes.bytes c.args.self.now.pairs c.law.ensures.content c.law.ensures.distinct in
    let found = h c.in-Included.query.now c.in-Err.ensures.stands.1 c.in-Err.prev c.in-Err.ensures.stands.0 c.args.is_start ∙ sym c.side_of.ensures in
    told g.K.AsBytes.bytes c.args.self.now.pairs (ap (bound_bytes (λ (b : List ℕ). b)) c.in-Included.is) refl found

pub returns-in-Err-at_or_before-clause-found : goal.returns-in-Err-at_or_before-clause-found
returns-in-Err-at_or_before-clause-found g c =
    let h = number_within_excluded g.K.AsBytes.bytes c.args.self.now.pairs c.law.ensures.content c.law.ensures.distinct in
    let f = c.in-Err-at_or_before in
    let found = h c.in-Excluded.query.now f.ensures.stands.1 f.prev f.ensures.stands.0 c.args.is_start ∙ sym c.side_of-in-Err-at_or_before.ensures in
    told g.K.AsBytes.bytes c.args.self.now.pairs (ap (bound_bytes (λ (b : List ℕ). b)) c.in-Excluded.is) refl found

pub returns-then-is_start-2-clause-found : goal.returns-then-is_start-2-clause-found
returns-then-is_start-2-clause-found g c =
    let h = number_within_after g.K.AsBytes.bytes c.args.self.now.pairs c.law.ensures.content c.law.ensures.distinct in
    let found = h c.in-Excluded.query.now c.in-Ok-at_or_before.id c.in-Ok-at_or_before.ensures.stands ∙ sym c.next_of.ensures in
    told g.K.AsBytes.bytes c.args.self.now.pairs (ap (bound_bytes (λ (b : List ℕ). b)) c.in-Excluded.is) c.if-is_start-2.true found

pub returns-else-is_start-2-clause-found : goal.returns-else-is_start-2-clause-found
returns-else-is_start-2-clause-found g c =
    let h = number_within_before g.K.AsBytes.bytes c.args.self.now.pairs c.law.ensures.content c.law.ensures.distinct in
    let found = h c.in-Excluded.query.now c.in-Ok-at_or_before.id c.in-Ok-at_or_before.ensures.stands ∙ sym c.prev_of.ensures in
    told g.K.AsBytes.bytes c.args.self.now.pairs (ap (bound_bytes (λ (b : List ℕ). b)) c.in-Excluded.is) c.if-is_start-2.false found

pub returns-else-is_start-clause-none_counted : goal.returns-else-is_start-clause-none_counted
returns-else-is_start-clause-none_counted g c = λ none some. absurd (some (no_last c.args.self.now.pairs (sym c.last.ensures ∙ none)))
