use Rattle.std.proofs.Common.{ap, ◌∙◌}
use Rattle.art_slots.specs.Store.{slot_at, used_count}
use Rattle.art_rows.proofs.Copies.{same_pairs, same_links}
use Rattle.art_rows.proofs.chain.Chain+usize.clone.Goals as goal

pub invariant_of-result : goal.invariant_of-result
invariant_of-result c = same_links (slot_at c.self.inside.records.store) (slot_at c.in_ok-clone.field-0.store) c.in_ok-clone.ensures.cloned (used_count c.self.inside.records.store) (used_count c.in_ok-clone.field-0.store) c.in_ok-clone.ensures.used c.self.inside.first c.self.inside.last c.self.invariant

pub returns : goal.returns
returns c = record { spare = c.in_ok-clone.ensures.spare ∙ ap (λ v. v.spare) c.self.view_is; top = c.in_ok-clone.ensures.top ∙ ap (λ v. v.top) c.self.view_is; same = same_pairs (slot_at c.self.inside.records.store) (slot_at c.in_ok-clone.field-0.store) c.in_ok-clone.ensures.cloned (used_count c.self.inside.records.store) (used_count c.in_ok-clone.field-0.store) c.in_ok-clone.ensures.used c.self.inside.first ∙ ap (λ v. v.pairs) c.self.view_is }
