use Rattle.std.proofs.Common.{◌≡◌, ◌∙◌, Option, List, take, ap, sym, subst}
use Rattle.art_kinds.specs.Edges.{IsPrevious, before, paired}
use Rattle.art_kinds.specs.declared.records.ids.Edge.{Edge}
use Rattle.art_kinds.proofs.EdgeNexts.{before-previous}
use Rattle.art_kinds.proofs.Pairs.{take-paired}
use Rattle.art_kinds.proofs.records.few.Few.edge_before.Goals as goal

pub returns : goal.returns
returns g c =
    let i = c.self.inside in
    let es = take i.count (paired i.bytes i.children) in
    let e : c.before_in.result ≡ before es c.args.byte = c.before_in.ensures ∙ ap (λ (z : List Edge). before z c.args.byte) (take-paired i.count i.bytes i.children) in
    let h : IsPrevious es c.args.byte c.before_in.result = subst (λ (o : Option Edge). IsPrevious es c.args.byte o) (sym e) (before-previous es c.args.byte c.self.invariant.sorted.ascends) in
    subst (λ (k : List Edge). IsPrevious k c.args.byte c.before_in.result) c.self.view_is h
