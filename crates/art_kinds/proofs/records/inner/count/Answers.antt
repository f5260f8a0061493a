use Rattle.std.proofs.Common.{◌∙◌, length, sym, ap, subst}
use Rattle.art_kinds.specs.Nodes.{Node}
use Rattle.art_kinds.specs.OneKinds.{FitsIn}
use Rattle.art_kinds.proofs.records.inner.count.Goals as goal

pub returns-clause-fits : goal.returns-clause-fits
returns-clause-fits g c =
    let h = c.requires.kind.all c.args.place c.read.result.now c.read.ensures.value in
    subst (λ n. FitsIn g.C.Children.places n) (sym (c.count.ensures.count ∙ ap (λ (x : Node). length x.edges) c.behind-store.view_is)) h
