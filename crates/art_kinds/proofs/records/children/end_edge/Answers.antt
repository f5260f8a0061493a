use Rattle.std.proofs.Common.{◌∙◌, Option, subst, sym, arith}
use Rattle.art_kinds.specs.Edges.{IsFrom, IsPrevious}
use Rattle.art_kinds.specs.declared.records.ids.Edge.{Edge}
use Rattle.art_kinds.proofs.Tables.{not-empty, none-below, least-of-from, greatest-of-below}
use Rattle.art_kinds.proofs.records.children.end_edge.Goals as goal
use Rattle.art_kinds.proofs.records.children.end_edge.Goals.{in-First, in-Last}

pub unreachable-requires : goal.unreachable-requires
unreachable-requires g c =
    let es = g.C.Children.edges c.args.node.now in
    not-empty es c.requires (elim c.match-end.branch [
      | in-First w ↦ λ b. subst (λ (o : Option Edge). IsFrom es 0 o) (sym w.found-is ∙ c.in-None.is) w.edge_from-found.ensures b (omega arith)
      | in-Last w ↦ none-below es c.count-count.ensures.bytes (subst (λ (o : Option Edge). IsPrevious es 256 o) (sym w.found-is ∙ c.in-None.is) w.edge_below-found.ensures)
    ])

pub returns : goal.returns
returns g c =
    let es = g.C.Children.edges c.args.node.now in
    elim c.match-end.branch [
      | in-First w ↦ rw w.in-First.is (least-of-from es c.in-Some.edge (subst (λ (o : Option Edge). IsFrom es 0 o) (sym w.found-is ∙ c.in-Some.is) w.edge_from-found.ensures))
      | in-Last w ↦ rw w.in-Last.is (greatest-of-below es c.in-Some.edge c.count-count.ensures.bytes (subst (λ (o : Option Edge). IsPrevious es 256 o) (sym w.found-is ∙ c.in-Some.is) w.edge_below-found.ensures))
    ]
