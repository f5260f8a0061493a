use Rattle.std.proofs.Common.{◌<◌, None, List, length, ap, sym, ◌∙◌, arith}
use Rattle.std.proofs.lemmas.List.{get_or_default}
use Rattle.art_kinds.specs.Edges.{child_at}
use Rattle.art_kinds.specs.declared.records.ids.Edge.{Edge}
use Rattle.art_kinds.proofs.Tables.{child_at-edges}
use Rattle.art_kinds.proofs.records.full.FullChildren.find.Goals as goal

pub returns : goal.returns
returns c =
    let i = c.self.inside in
    let l : c.args.byte < length i.children = omega (arith, c.self.invariant.wide, c.ranges.byte.fits) in
    c.child.ensures ∙ sym (get_or_default i.children c.args.byte None _ l) ∙ sym (child_at-edges i.children c.args.byte) ∙ ap (λ (es : List Edge). child_at es c.args.byte) c.self.view_is
