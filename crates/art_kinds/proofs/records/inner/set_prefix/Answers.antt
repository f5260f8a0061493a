use Rattle.std.proofs.Common.{length, sym, subst}
use Rattle.art_kinds.specs.Nodes.{Node}
use Rattle.art_kinds.specs.OneKinds.{FitsIn}
use Rattle.art_kinds.proofs.Changes.{kind_written}
use Rattle.art_kinds.proofs.records.inner.set_prefix.Goals as goal

pub returns-clause-kind : goal.returns-clause-kind
returns-clause-kind g c =
    let h = c.requires.kind.all c.args.place c.get_mut-record.result.now c.get_mut-record.ensures.value in
    let k = subst (λ (x : Node). FitsIn g.C.Children.places (length x.edges)) (sym c.record.view_is) h in
    kind_written c.args.place _ c.get_mut-record.ensures.value c.requires.kind k
