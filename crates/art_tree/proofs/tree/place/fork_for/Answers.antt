use Rattle.std.proofs.Common.{lit<, sym, subst, Option}
use Rattle.std.specs.Prelude.{IfSome}
use Rattle.art_kinds.specs.Nodes.{at}
use Rattle.art_kinds.specs.declared.records.ids.Child.{Child}
use Rattle.art_tree.specs.Calls.Placing.{IsShownIn}
use Rattle.art_tree.specs.Calls.Forks.{ForkFits}
use Rattle.art_tree.specs.Invariant.Shape.{Shape}
use Rattle.art_tree.specs.declared.tree.descent.Fork.{Fork}
use Rattle.art_tree.proofs.tree.place.fork_for.Goals as goal

pub locate-requires : goal.locate-requires
locate-requires g c =
    let r = c.requires in
    let shape = subst (λ (z : Option Child). Shape g.row.P r.keys (at c.args.skeleton.now.nodes) z) c.in-Some-root.is r.shape in
    (lit< tt, record { keys = r.keys; shape = shape; leaf = c.args.gap.now.nearest; is = r.is; within = r.within })

pub returns-in-Some : goal.returns-in-Some
returns-in-Some g c = λ h.
    let p = c.args.gap.now in
    subst (λ (o : Option Fork). IfSome o (IsShownIn g.row.P h.keys (at c.args.skeleton.now.nodes) c.args.skeleton.now.root p.nearest p.depth)) c.in-Some.is h.known h.shape c.args.nearest.now h.is h.within

pub returns-in-Some-root : goal.returns-in-Some-root
returns-in-Some-root g c = λ h.
    let nodes = at c.args.skeleton.now.nodes in
    subst (λ (z : Option Child). (s : Shape g.row.P h.keys nodes z) → ForkFits nodes z s.front_of c.args.nearest.now c.args.gap.now.depth c.locate.result) (sym c.in-Some-root.is) (λ s. c.locate.ensures h.keys s c.args.gap.now.nearest h.is) h.shape
