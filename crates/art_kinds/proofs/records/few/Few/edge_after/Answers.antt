use Rattle.std.proofs.Common.{◌≡◌, ◌∙◌, Option, List, take, ap, sym, subst}
use Rattle.art_kinds.specs.Edges.{IsNext, after, paired}
use Rattle.art_kinds.specs.declared.records.ids.Edge.{Edge}
use Rattle.art_kinds.proofs.EdgeNexts.{after-next}
use Rattle.art_kinds.proofs.Pairs.{take-paired}
use Rattle.art_kinds.proofs.records.few.Few.edge_after.Goals as goal

pub returns : goal.returns
returns g c =
    let i = c.self.inside in
    let es = take i.count (paired i.bytes i.children) in
    let e : c.after_in.result ≡ after es c.args.byte = c.after_in.ensures ∙ ap (λ (z : List Edge). after z c.args.byte) (take-paired i.count i.bytes i.children) in
    let h : IsNext es c.args.byte c.after_in.result = subst (λ (o : Option Edge). IsNext es c.args.byte o) (sym e) (after-next es c.args.byte c.self.invariant.sorted.ascends) in
    subst (λ (k : List Edge). IsNext k c.args.byte c.after_in.result) c.self.view_is h
