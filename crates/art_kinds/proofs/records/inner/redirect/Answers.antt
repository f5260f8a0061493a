use Rattle.std.proofs.Common.{length, refl, ap, arith}
use Rattle.art_kinds.specs.Nodes.{Node}
use Rattle.art_kinds.proofs.Changes.{changed, kind_written, fits_less}
use Rattle.art_kinds.proofs.records.inner.redirect.Goals as goal

pub returns-clause-changes : goal.returns-clause-changes
returns-clause-changes g c =
    changed refl c.args.place _ c.get_mut.ensures.value c.behind-store.view_is (record { depth = refl; prefix = refl; edges = c.redirect.ensures })

pub returns-clause-kind : goal.returns-clause-kind
returns-clause-kind g c =
    let h = c.requires.kind.all c.args.place c.get_mut.result.now c.get_mut.ensures.value in
    let e = ap (λ (x : Node). length x.edges) c.behind-store.view_is in
    let s = c.redirect.ensures.same_length in
    kind_written c.args.place _ c.get_mut.ensures.value c.requires.kind (fits_less g.C.Children.places _ _ (omega arith) h)
