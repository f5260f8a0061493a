use Rattle.std.proofs.Common.{ℕ, lit<, subst, Option}
use Rattle.art_kinds.specs.Nodes.{at}
use Rattle.art_tree.specs.Calls.Pruning.{HasFirstNode}
use Rattle.blart_keys.proofs.Options.{some_of, none_of}
use Rattle.art_tree.proofs.Invariant.Rotating.{all_gone, all_kept}
use Rattle.art_tree.proofs.Calls.Freeing.{none_below}
use Rattle.art_tree.proofs.tree.free_subtree.free_below.Goals as goal

pub first_node-requires : goal.first_node-requires
first_node-requires g c =
    let r = c.requires in
    let s = c.each.invariant.loose r.0 r.1 in
    let x = some_of (at c.each.nodes c.each.head) s.live in
    (lit< tt, record { node = x.0; is = x.1; some = s.some c.each.head x.0 x.1 s.own })

pub returns-in_default : goal.returns-in_default
returns-in_default g c = λ goes h j.
    let s = c.each.invariant.loose goes h in
    let none = none_of c.first_node.result (λ t. let f = some_of c.first_node.result t in c.in_default.not-Some f.0 f.1) in
    let leaves = none_below (at c.each.nodes) c.each.head c.first_node.result c.first_node.ensures none in
    (all_gone goes (at c.args.nodes.now) (at c.each.nodes) (at c.free.new.self) c.each.head s c.free.ensures.freed leaves j, all_kept goes (at c.args.nodes.now) (at c.each.nodes) (at c.free.new.self) c.each.head s c.free.ensures.freed leaves j)

pub advance-requires : goal.advance-requires
advance-requires g c =
    let r = c.requires in
    (lit< tt, ((r.0, at c.args.nodes.now, c.each.invariant.loose r.0 r.1), subst (λ (o : Option (ℕ × ℕ)). HasFirstNode (at c.each.nodes) c.each.head o) c.in-Some.is c.first_node.ensures))
