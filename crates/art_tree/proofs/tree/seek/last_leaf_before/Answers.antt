use Rattle.std.proofs.Common.{Bool, lit<, subst, refl, arith}
use Rattle.art_tree.specs.Gaps.{IsBeside}
use Rattle.art_tree.specs.Calls.Descents.{IsEndUnder}
use Rattle.art_tree.specs.Calls.Stops.{beside_leaf}
use Rattle.art_tree.specs.Leaves.{keys_in}
use Rattle.art_tree.specs.declared.tree.point.Neighbour.TheVariants.{AfterLeaf, BeforeLeaf}
use Rattle.art_tree.proofs.Invariant.Soundness.{within_longest}
use Rattle.art_tree.proofs.NumberedPairs.Bounds.{at_or_before_beside}
use Rattle.art_tree.proofs.NumberedPairs.Keys.{has_key}
use Rattle.art_tree.proofs.tree.seek.last_leaf_before.Goals as goal

pub end_under-end-requires : goal.end_under-end-requires
end_under-end-requires g c =
    let b = c.requires.beside.1 in
    (lit< tt, record { keys = _; root = b.root; shape = b.shape; front = b.front; covers = b.covers })

pub prev_of-requires : goal.prev_of-requires
prev_of-requires g c =
    let b = c.requires.beside.1 in
    let u = c.end_under-end.ensures.ends _ b.root b.shape b.front b.covers in
    has_key g.K.AsBytes.bytes c.args.leaves.now.pairs c.end_under-end.result u.key u.is

pub returns-then-is_after-clause-before : goal.returns-then-is_after-clause-before
returns-then-is_after-clause-before g c q b =
    let kb = g.K.AsBytes.bytes in
    let S = c.args.leaves.now.pairs in
    let u = subst (λ (z : Bool). IsEndUnder (keys_in kb S) z b.front c.end_under-end.result) c.end_near.ensures (c.end_under-end.ensures.ends (keys_in kb S) b.root b.shape b.front b.covers) in
    let beside = subst (λ (z : Bool). IsBeside (keys_in kb S) q (beside_leaf z c.end_under-end.result)) c.if-is_after.true (b.beside c.end_under-end.result u) in
    at_or_before_beside kb S c.requires.content c.law.ensures.distinct q b.alone (AfterLeaf c.end_under-end.result) beside _ refl

pub returns-then-is_after-clause-counted : goal.returns-then-is_after-clause-counted
returns-then-is_after-clause-counted g c =
    let kb = g.K.AsBytes.bytes in
    let S = c.args.leaves.now.pairs in
    let b = c.requires.beside.1 in
    let u = c.end_under-end.ensures.ends (keys_in kb S) b.root b.shape b.front b.covers in
    omega (arith, within_longest kb S c.end_under-end.result u.key u.is, c.end_under-end.ensures.counted (keys_in kb S) b.root b.shape b.front u.key b.covers u.is)

pub returns-else-is_after-clause-before : goal.returns-else-is_after-clause-before
returns-else-is_after-clause-before g c q b =
    let kb = g.K.AsBytes.bytes in
    let S = c.args.leaves.now.pairs in
    let u = subst (λ (z : Bool). IsEndUnder (keys_in kb S) z b.front c.end_under-end.result) c.end_near.ensures (c.end_under-end.ensures.ends (keys_in kb S) b.root b.shape b.front b.covers) in
    let beside = subst (λ (z : Bool). IsBeside (keys_in kb S) q (beside_leaf z c.end_under-end.result)) c.if-is_after.false (b.beside c.end_under-end.result u) in
    at_or_before_beside kb S c.requires.content c.law.ensures.distinct q b.alone (BeforeLeaf c.end_under-end.result) beside _ c.prev_of.ensures

pub returns-else-is_after-clause-counted : goal.returns-else-is_after-clause-counted
returns-else-is_after-clause-counted g c =
    let kb = g.K.AsBytes.bytes in
    let S = c.args.leaves.now.pairs in
    let b = c.requires.beside.1 in
    let u = c.end_under-end.ensures.ends (keys_in kb S) b.root b.shape b.front b.covers in
    omega (arith, within_longest kb S c.end_under-end.result u.key u.is, c.end_under-end.ensures.counted (keys_in kb S) b.root b.shape b.front u.key b.covers u.is)
