use Rattle.std.proofs.Common.{◌≡◌, Bool, Some, inl, inr, ap, subst, ◌∙◌}
use Rattle.std.specs.Prelude.{not}
use Rattle.std.proofs.lemmas.Bool.{false≢true}
use Rattle.std.proofs.lemmas.Bool.Decides.{eqb_tells}
use Rattle.art_kinds.specs.Nodes.{at}
use Rattle.art_kinds.specs.declared.records.ids.Child.{Child}
use Rattle.art_kinds.specs.declared.records.ids.Child.TheVariants.{Leaf, Inner}
use Rattle.art_tree.specs.Invariant.EdgesAbove.{LeadsTo}
use Rattle.art_tree.proofs.Ways.Shown.{shown_edge, shown_node}
use Rattle.art_tree.proofs.tree.place.fork_shown.Goals as goal

pub returns-else-ne : goal.returns-else-ne
returns-else-ne g c = λ keys s nearest is long.
    let nodes = at c.args.skeleton.now.nodes in
    let above = c.in_ok-above.above in
    let leads : LeadsTo nodes c.args.skeleton.now.root above (Leaf c.in-Leaf.id) = subst (λ (z : Child). LeadsTo nodes c.args.skeleton.now.root above z) c.in-Leaf.is c.in_ok-above.ensures.leads in
    let same : c.in-Leaf.id ≡ c.args.gap.now.nearest = (elim (eqb_tells c.in-Leaf.id c.args.gap.now.nearest) [ inl e ↦ e.1 | inr e ↦ absurd (false≢true (c.if-ne.ensures ∙ ap (λ (b : Bool). not b) e.0)) ]) in
    let own : keys c.in-Leaf.id ≡ Some nearest = ap keys same ∙ is in
    shown_edge keys nodes c.args.skeleton.now.root s c.in-Leaf.id c.args.gap.now.depth nearest own above long leads c.in_ok-above.ensures.ends

pub returns-else-not-is_over_nearest : goal.returns-else-not-is_over_nearest
returns-else-not-is_over_nearest g c = λ keys s nearest is long.
    let nodes = at c.args.skeleton.now.nodes in
    let above = c.in_ok-above.above in
    let leads : LeadsTo nodes c.args.skeleton.now.root above (Inner c.in-Inner.id) = subst (λ (z : Child). LeadsTo nodes c.args.skeleton.now.root above z) c.in-Inner.is c.in_ok-above.ensures.leads in
    shown_node keys nodes c.args.skeleton.now.root s c.args.gap.now.nearest c.args.gap.now.depth nearest is above c.in-Inner.id c.args.gap.now.byte leads (c.is_over_nearest.ensures c.if-not-is_over_nearest.false)
