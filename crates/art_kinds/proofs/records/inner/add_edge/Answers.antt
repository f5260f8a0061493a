use Rattle.std.proofs.Common.{◌+◌, length, refl, ap, arith}
use Rattle.art_kinds.specs.Nodes.{Node}
use Rattle.art_kinds.specs.OneKinds.{FitsIn}
use Rattle.art_slots.specs.Store.{slot_at}
use Rattle.art_kinds.proofs.Changes.{changed, holds_of, kind_written, fits_less}
use Rattle.art_kinds.proofs.records.inner.add_edge.Goals as goal

pub returns-clause-changes : goal.returns-clause-changes
returns-clause-changes g c =
    changed refl c.args.place _ c.get_mut.ensures.value c.behind-store.view_is (record { depth = refl; prefix = refl; edges = c.insert.ensures })

pub returns-clause-kind : goal.returns-clause-kind
returns-clause-kind g c =
    let at = c.args.place in
    let R : Node → Type 0 = λ x. FitsIn g.C.Children.places (length x.edges + 1) in
    let h = holds_of R (slot_at c.args.store.now at) c.get_mut.result.now c.get_mut.ensures.value c.requires.room in
    let e = ap (λ (x : Node). length x.edges) c.behind-store.view_is in
    let s = c.insert.ensures.longer in
    kind_written at _ c.get_mut.ensures.value c.requires.kind (fits_less g.C.Children.places _ _ (omega arith) h)
