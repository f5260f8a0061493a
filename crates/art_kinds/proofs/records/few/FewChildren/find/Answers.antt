use Rattle.std.proofs.Common.{◌∙◌, List, ap}
use Rattle.art_kinds.specs.Edges.{child_at}
use Rattle.art_kinds.specs.declared.records.ids.Edge.{Edge}
use Rattle.art_kinds.proofs.Pairs.{take-paired}
use Rattle.art_kinds.proofs.records.few.FewChildren.find.Goals as goal

pub returns : goal.returns
returns g c =
    let i = c.self.inside in
    c.find_in.ensures ∙ ap (λ (z : List Edge). child_at z c.args.byte) (take-paired i.count i.bytes i.children ∙ c.self.view_is)
