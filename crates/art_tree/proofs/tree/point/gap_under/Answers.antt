use Rattle.std.proofs.Common.{Bool, lit<, subst}
use Rattle.art_tree.specs.Gaps.{IsBeside}
use Rattle.art_tree.specs.Calls.Descents.{IsEndUnder}
use Rattle.art_tree.specs.Calls.Stops.{beside_leaf}
use Rattle.art_tree.proofs.tree.point.gap_under.Goals as goal

pub end_under-nearest-requires : goal.end_under-nearest-requires
end_under-nearest-requires g c =
    let r = c.requires in
    let b = r.2.beside in
    (lit< tt, record { keys = r.0; root = b.root; shape = b.shape; front = b.front; covers = b.covers })

pub returns-then-is_after-clause-leaves : goal.returns-then-is_after-clause-leaves
returns-then-is_after-clause-leaves g c = λ keys q h.
    let b = h.beside in
    let u = subst (λ (z : Bool). IsEndUnder keys z b.front c.end_under-nearest.result) c.end_near.ensures (c.end_under-nearest.ensures.ends keys b.root b.shape b.front b.covers) in
    h.leaves c.end_under-nearest.result u.key u.is u.front

pub returns-else-is_after-clause-leaves : goal.returns-else-is_after-clause-leaves
returns-else-is_after-clause-leaves g c = λ keys q h.
    let b = h.beside in
    let u = subst (λ (z : Bool). IsEndUnder keys z b.front c.end_under-nearest.result) c.end_near.ensures (c.end_under-nearest.ensures.ends keys b.root b.shape b.front b.covers) in
    h.leaves c.end_under-nearest.result u.key u.is u.front

pub returns-then-is_after-clause-beside : goal.returns-then-is_after-clause-beside
returns-then-is_after-clause-beside g c = λ keys q h.
    let b = h.beside in
    let u = subst (λ (z : Bool). IsEndUnder keys z b.front c.end_under-nearest.result) c.end_near.ensures (c.end_under-nearest.ensures.ends keys b.root b.shape b.front b.covers) in
    subst (λ (z : Bool). IsBeside keys q (beside_leaf z c.end_under-nearest.result)) c.if-is_after.true (b.beside c.end_under-nearest.result u)

pub returns-else-is_after-clause-beside : goal.returns-else-is_after-clause-beside
returns-else-is_after-clause-beside g c = λ keys q h.
    let b = h.beside in
    let u = subst (λ (z : Bool). IsEndUnder keys z b.front c.end_under-nearest.result) c.end_near.ensures (c.end_under-nearest.ensures.ends keys b.root b.shape b.front b.covers) in
    subst (λ (z : Bool). IsBeside keys q (beside_leaf z c.end_under-nearest.result)) c.if-is_after.false (b.beside c.end_under-nearest.result u)

pub returns-then-is_after-clause-end : goal.returns-then-is_after-clause-end
returns-then-is_after-clause-end g c = λ keys root s front covers. subst (λ (z : Bool). IsEndUnder keys z front c.end_under-nearest.result) c.end_near.ensures (c.end_under-nearest.ensures.ends keys root s front covers)

pub returns-else-is_after-clause-end : goal.returns-else-is_after-clause-end
returns-else-is_after-clause-end g c = λ keys root s front covers. subst (λ (z : Bool). IsEndUnder keys z front c.end_under-nearest.result) c.end_near.ensures (c.end_under-nearest.ensures.ends keys root s front covers)
