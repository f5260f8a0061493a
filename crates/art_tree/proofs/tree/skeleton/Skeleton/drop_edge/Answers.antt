use Rattle.std.proofs.Common.{◌≡◌, ◌≤◌, ◌<◌, length, subst, sym, ◌∙◌, ap, lit<, arith, Some}
use Rattle.art_kinds.specs.Edges.{child_at}
use Rattle.art_tree.specs.Leaves.{keys_in}
use Rattle.art_kinds.specs.Nodes.{Node, at}
use Rattle.art_kinds.specs.declared.records.ids.Child.TheVariants.{Inner}
use Rattle.art_tree.proofs.Calls.Unlinking.{leaf_at_node, child_below_edge, loses_same, two_children}
use Rattle.art_tree.proofs.Invariant.Losing.{edge_merged}
use Rattle.art_tree.proofs.Invariant.Prefixes.{cut_node, cut_leads}
use Rattle.blart_keys.proofs.Options.{is_some}
use Rattle.art_tree.proofs.tree.skeleton.Skeleton.drop_edge.Goals as goal

pub shrink-requires : goal.shrink-requires
shrink-requires g c =
    let r = c.requires in (
      lit< tt,
      (
        keys_in g.K.AsBytes.bytes c.args.leaves.now.pairs,
        c.args.id.now,
        leaf_at_node g.K.AsBytes.bytes c.args.leaves.now.pairs (at c.args.self.now.nodes) c.args.self.now.root r.sound.shape c.args.id.now r.has c.args.node.now c.args.byte r.leads c.args.above.now c.requires.above,
      ),
    )

pub returns-then-count-gt2 : goal.returns-then-count-gt2
returns-then-count-gt2 g c = λ keys k loses.
    let r = c.requires in
    let old = keys_in g.K.AsBytes.bytes c.args.leaves.now.pairs in
    let nodes = at c.args.self.now.nodes in
    let h = leaf_at_node g.K.AsBytes.bytes c.args.leaves.now.pairs nodes c.args.self.now.root r.sound.shape c.args.id.now r.has c.args.node.now c.args.byte r.leads c.args.above.now c.requires.above in
    let a : nodes c.args.node.now ≡ Some h.node = h.is in
    let b : nodes c.args.node.now ≡ Some c.read.result = c.read.ensures.value in
    let e : h.node ≡ c.read.result = cc in
    let f : length h.node.edges ≡ c.count-count.result = ap (λ (x : Node). length x.edges) e ∙ sym c.count-count.ensures.count in
    let t : 2 < c.count-count.result = c.if-count-gt2.true in
    c.shrink.ensures old keys c.args.id.now h (omega arith) (loses_same old keys c.args.id.now k h.key loses h.key_is)

pub other_edge-other-requires : goal.other_edge-other-requires
other_edge-other-requires g c =
    let r = c.requires in (
      lit< tt,
      (
        keys_in g.K.AsBytes.bytes c.args.leaves.now.pairs,
        c.args.self.now.root,
        c.args.above.now,
        c.args.id.now,
        leaf_at_node g.K.AsBytes.bytes c.args.leaves.now.pairs (at c.args.self.now.nodes) c.args.self.now.root r.sound.shape c.args.id.now r.has c.args.node.now c.args.byte r.leads c.args.above.now c.requires.above,
      ),
    )

pub prepend_prefix-requires : goal.prepend_prefix-requires
prepend_prefix-requires g c =
    let keys = keys_in g.K.AsBytes.bytes c.args.leaves.now.pairs in
    (lit< tt, (keys, c.args.above.now, child_below_edge keys (at c.args.self.now.nodes) c.args.self.now.root c.requires.sound.shape c.args.above.now c.args.node.now c.args.byte c.other_edge-other.result c.requires.above c.other_edge-other.ensures))

pub merge-requires : goal.merge-requires
merge-requires g c =
    let s = c.requires.sound.shape in
    let above = c.args.above.now in
    let cuts = c.prepend_prefix.ensures (keys_in g.K.AsBytes.bytes c.args.leaves.now.pairs) c.args.above.now (child_below_edge (keys_in g.K.AsBytes.bytes c.args.leaves.now.pairs) (at c.args.self.now.nodes) c.args.self.now.root c.requires.sound.shape c.args.above.now c.args.node.now c.args.byte c.other_edge-other.result c.requires.above c.other_edge-other.ensures) in
    let o = c.other_edge-other.ensures in
    let y = cut_node g.row.P (at c.args.self.now.nodes) (at c.prepend_prefix.new.nodes) s.front_of _ c.other_edge-other.result.to cuts c.args.node.now o.node o.is in
    (lit< tt, (cut_leads g.row.P (at c.args.self.now.nodes) (at c.prepend_prefix.new.nodes) s.front_of _ c.other_edge-other.result.to cuts c.args.self.now.root above (Inner c.args.node.now) c.requires.above, is_some (at c.prepend_prefix.new.nodes c.args.node.now) y.0 y.1))

pub returns : goal.returns
returns g c = λ keys k loses.
    let r = c.requires in
    let old = keys_in g.K.AsBytes.bytes c.args.leaves.now.pairs in
    let nodes = at c.args.self.now.nodes in
    let above = c.args.above.now in
    let h = leaf_at_node g.K.AsBytes.bytes c.args.leaves.now.pairs nodes c.args.self.now.root r.sound.shape c.args.id.now r.has c.args.node.now c.args.byte r.leads above c.requires.above in
    let cuts = c.prepend_prefix.ensures (keys_in g.K.AsBytes.bytes c.args.leaves.now.pairs) c.args.above.now (child_below_edge (keys_in g.K.AsBytes.bytes c.args.leaves.now.pairs) (at c.args.self.now.nodes) c.args.self.now.root c.requires.sound.shape c.args.above.now c.args.node.now c.args.byte c.other_edge-other.result c.requires.above c.other_edge-other.ensures) in
    let o = c.other_edge-other.ensures in
    let a : nodes c.args.node.now ≡ Some h.node = h.is in
    let b : nodes c.args.node.now ≡ Some c.read.result = c.read.ensures.value in
    let d : nodes c.args.node.now ≡ Some o.node = o.is in
    let e : h.node ≡ c.read.result = cc in
    let e1 : o.node ≡ h.node = cc in
    let f : length h.node.edges ≡ c.count-count.result = ap (λ (x : Node). length x.edges) e ∙ sym c.count-count.ensures.count in
    let high : child_at h.node.edges c.other_edge-other.result.byte ≡ Some c.other_edge-other.result.to = subst (λ (x : Node). child_at x.edges c.other_edge-other.result.byte ≡ Some c.other_edge-other.result.to) e1 o.there in
    let t : 2 ≤ length h.node.edges = two_children h.node.edges c.args.byte c.other_edge-other.result.byte _ _ h.low high o.other in
    let u : c.count-count.result ≤ 2 = c.if-count-gt2.false in
    let m = c.merge.ensures in
    edge_merged old keys nodes c.args.self.now.root c.args.node.now c.args.id.now c.args.byte h.key h.shape (loses_same old keys c.args.id.now k h.key loses h.key_is) h.node h.is h.low
    (at c.prepend_prefix.new.nodes) m.0 (at c.merge.new.self.nodes) c.merge.new.self.root c.other_edge-other.result.byte c.other_edge-other.result.to high o.other (omega arith) m.2 above h.leads cuts m.1
