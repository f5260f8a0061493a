use Rattle.std.proofs.Common.{◌≡◌, ◌+◌, ◌-◌, ◌≤◌, List, ℕ, length, take, slice_get, slice_range, subst, sym, Some, ◌∙◌, arith}
use Rattle.art_tree.specs.Calls.Placing.{KeepsFrom, DepthWithin}
use Rattle.art_kinds.specs.Nodes.{Node, at}
use Rattle.art_kinds.specs.declared.records.ids.Child.{Child}
use Rattle.art_tree.proofs.Invariant.Prefixes.{kept_byte}
use Rattle.art_tree.proofs.tree.place.byte_on.Goals as goal

pub returns-in-Some : goal.returns-in-Some
returns-in-Some g c =
    let P = g.row.P in
    let old = at c.args.nodes.now in
    let key = c.args.key.now in
    let i = c.args.depth - c.args.from in
    let x = c.read-node.result in
    let is : old c.in-Inner.id ≡ Some x = c.read-node.ensures.value in
    let kept = (subst (λ (d : Child). KeepsFrom P old d key c.args.from) c.in-Inner.is c.requires.kept) x is in
    let deep = subst (λ (d : Child). DepthWithin old d (c.args.depth + 1) (length key)) c.in-Inner.is c.requires.live in
    let was : old c.in-Inner.id ≡ Some deep.0 = deep.1 in
    let same : deep.0 ≡ x = cc in
    let lo : c.args.depth + 1 ≤ x.depth = subst (λ (y : Node). c.args.depth + 1 ≤ y.depth) same deep.2 in
    let b : slice_get (take P (slice_range key c.args.from x.depth)) i ≡ Some c.in-Some.byte = subst (λ (t : List ℕ). slice_get t i ≡ Some c.in-Some.byte) kept (sym c.prefix_byte.ensures ∙ c.in-Some.is) in
    kept_byte P key c.args.from c.args.depth x.depth c.in-Some.byte c.requires.reaches (omega arith) b
