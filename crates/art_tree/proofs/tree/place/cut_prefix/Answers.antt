use Rattle.std.proofs.Common.{◌≡◌, ◌-◌, ◌≤◌, List, ℕ, length, take, drop, slice_range, ap, subst, sym, Some, ◌∙◌, arith}
use Rattle.art_tree.specs.Calls.Placing.{KeepsFrom, DepthWithin}
use Rattle.art_tree.specs.Calls.Removing.{Cuts}
use Rattle.art_kinds.specs.Nodes.{Node, Reprefixes, at}
use Rattle.art_kinds.specs.declared.records.ids.Child.{Child}
use Rattle.art_tree.proofs.Invariant.Prefixes.{cut_kept}
use Rattle.art_tree.proofs.tree.place.cut_prefix.Goals as goal

pub returns-then-end-from-clause-cut : goal.returns-then-end-from-clause-cut
returns-then-end-from-clause-cut g c =
    let P = g.row.P in
    let old = at c.args.nodes.now in
    let new = at c.cut_prefix.new.self in
    let key = c.args.key.now in
    let x = c.read.result in
    let is : old c.in-Inner.id ≡ Some x = c.read.ensures.value in
    let kept = (subst (λ (d : Child). KeepsFrom P old d key c.args.from) c.in-Inner.is c.requires.kept) x is in
    let deep = subst (λ (d : Child). DepthWithin old d c.args.start (length key)) c.in-Inner.is c.requires.live in
    let was : old c.in-Inner.id ≡ Some deep.0 = deep.1 in
    let same : deep.0 ≡ x = cc in
    let lo : c.args.start ≤ x.depth = subst (λ (y : Node). c.args.start ≤ y.depth) same deep.2 in
    let d : c.depth-end.result ≡ x.depth = c.depth-end.ensures in
    let few : x.depth - c.args.from ≤ P = omega (arith, c.if-end-from.true, d) in
    let e : take P (drop (c.args.start - c.args.from) x.prefix) ≡ take P (slice_range key c.args.start x.depth) =
    ap (λ (t : List ℕ). take P (drop (c.args.start - c.args.from) t)) kept ∙ cut_kept P key c.args.from c.args.start x.depth c.requires.reaches lo few in
    subst (λ (z : Child). Cuts old new z (λ end. take P (slice_range key c.args.start end))) (sym c.in-Inner.is) (x, is, subst (λ (t : List ℕ). Reprefixes old new c.in-Inner.id t) e (c.cut_prefix.ensures.cut x is))
