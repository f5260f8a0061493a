use Rattle.std.proofs.Common.{List, length, ap, sym, ◌∙◌, subst}
use Rattle.art_kinds.specs.Edges.{Ascends, table}
use Rattle.art_kinds.specs.declared.records.ids.Edge.{Edge}
use Rattle.art_kinds.proofs.Tables.{edges-Ascends, edges-bytes}
use Rattle.art_kinds.proofs.Places.{length-index, length-table}
use Rattle.art_kinds.proofs.records.indexed.IndexedChildren.count.Goals as goal

pub returns-clause-count : goal.returns-clause-count
returns-clause-count c =
    let i = c.self.inside in
    sym (length-index i.count i.index i.children c.self.invariant) ∙ ap (λ (es : List Edge). length es) c.self.view_is

pub returns-clause-ascends : goal.returns-clause-ascends
returns-clause-ascends c = subst (λ (es : List Edge). Ascends es) c.self.view_is (edges-Ascends (table c.self.inside.index c.self.inside.children) 0)

pub returns-clause-bytes : goal.returns-clause-bytes
returns-clause-bytes c =
    let i = c.self.inside in
    let h = edges-bytes (table i.index i.children) (length-table i.index i.children ∙ c.self.invariant.wide) in
    rw (← c.self.view_is) h
