use Rattle.std.proofs.Common.{◌≡◌, refl, subst, sym, lit<, Some}
use Rattle.art_tree.specs.Invariant.EdgesAbove.{edge_front}
use Rattle.art_tree.specs.Begins.{Bytes}
use Rattle.art_kinds.specs.Edges.{child_at}
use Rattle.art_kinds.specs.Nodes.{at, Reprefixes}
use Rattle.art_tree.specs.Calls.Removing.{CutsAfter, IsChildBelow}
use Rattle.art_kinds.specs.declared.records.ids.Child.{Child}
use Rattle.art_kinds.specs.declared.records.ids.Child.TheVariants.{Inner}
use Rattle.blart_keys.proofs.Options.{is_some, some_of}
use Rattle.art_tree.proofs.Calls.Unlinking.{prepended_is}
use Rattle.art_tree.proofs.tree.remove.prepend_prefix.Goals as goal

pub join_prefix-requires : goal.join_prefix-requires
join_prefix-requires g c =
    let h = c.requires.2 in
    let there = subst (λ (z : Child). child_at h.node.edges c.args.edge.now.byte ≡ Some z) c.in-Inner.is h.there in
    (lit< tt, (((h.shape.node c.args.node.now h.node h.is).below c.args.edge.now.byte (Inner c.in-Inner.id) there).live, is_some (at c.args.nodes.now c.args.node.now) h.node h.is))

pub returns-in-Leaf : goal.returns-in-Leaf
returns-in-Leaf g c = λ keys above h. subst (λ (z : Child). CutsAfter g.row.P (at c.args.nodes.now) (at c.args.nodes.now) h.shape.front_of (edge_front h.shape.front_of above) z) (sym c.in-Leaf.is) (λ j. refl)

pub returns-in-Inner : goal.returns-in-Inner
returns-in-Inner g c = λ keys above h.
    let nodes = at c.args.nodes.now in
    let n = c.args.node.now in
    let b = c.args.edge.now.byte in
    let m = c.in-Inner.id in
    let there = subst (λ (z : Child). child_at h.node.edges b ≡ Some z) c.in-Inner.is h.there in
    let w : IsChildBelow g.row.P keys nodes above n (record { byte = b; to = Inner m }) = record { root = h.root; shape = h.shape; leads = h.leads; node = h.node; is = h.is; there = there } in
    let y = some_of (nodes m) ((h.shape.node n h.node h.is).below b (Inner m) there).live in
    subst (λ (z : Child). CutsAfter g.row.P nodes (at c.join_prefix.new.self) h.shape.front_of (edge_front h.shape.front_of above) z) (sym c.in-Inner.is)
    (subst (λ (p : Bytes). Reprefixes nodes (at c.join_prefix.new.self) m p) (prepended_is keys nodes above n m b w y.0 y.1) (c.join_prefix.ensures.joined y.0 h.node y.1 h.is))
