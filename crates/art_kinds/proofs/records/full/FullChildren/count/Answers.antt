use Rattle.std.proofs.Common.{List, length, ap, sym, ◌∙◌, subst}
use Rattle.art_kinds.specs.Edges.{Ascends}
use Rattle.art_kinds.specs.declared.records.ids.Edge.{Edge}
use Rattle.art_kinds.proofs.Tables.{length-edges, edges-Ascends, edges-bytes}
use Rattle.art_kinds.proofs.records.full.FullChildren.count.Goals as goal

pub returns-clause-count : goal.returns-clause-count
returns-clause-count c =
    let i = c.self.inside in
    sym (length-edges i.children 0 ∙ c.self.invariant.counted) ∙ ap (λ (es : List Edge). length es) c.self.view_is

pub returns-clause-ascends : goal.returns-clause-ascends
returns-clause-ascends c = subst (λ (es : List Edge). Ascends es) c.self.view_is (edges-Ascends c.self.inside.children 0)

pub returns-clause-bytes : goal.returns-clause-bytes
returns-clause-bytes c =
    let h = edges-bytes c.self.inside.children c.self.invariant.wide in
    rw (← c.self.view_is) h
