use Rattle.std.proofs.Common.{◌≡◌, ◌≢◌, length, refl, arith}
use Rattle.art_kinds.specs.OneKinds.{Loses, Gains}
use Rattle.art_kinds.specs.declared.records.ids.Kind.TheVariants.{Four, Sixteen}
use Rattle.art_kinds.proofs.Moving.{same_node, holds_in, renamed, renamed-live, renamed-place, renamed-lowers}
use Rattle.art_kinds.proofs.records.nodes.Nodes.grow_four.Goals as goal

pub returns : goal.returns
returns g c =
    let i = c.self.inside in
    let f = c.self.view_is in
    let t = c.take-four.ensures in
    let u = c.fill-at.ensures in
    let off : 0 ≢ 1 = λ z. omega (arith, z) in
    let same = same_node c.with_edges.ensures c.of_few-edges.ensures c.four.view_is in
    let left : Loses i.fours c.take-four.new.self c.args.place = record { gone = t.gone; others = t.others; spare = t.spare; used = t.used } in
    let came : Gains i.sixteens c.fill-at.new.self c.fill-at.result c.with_edges.result =
    record { fresh = u.fresh; is = u.now; others = u.others; spare = u.spare; used = u.used } in
    let full = holds_in f Four c.args.place t.value (λ x. length x.edges ≡ 4) c.requires.full in
    record {
      moved = renamed f Four Sixteen off t.value same left came (omega arith) c.of.ensures;
      place = renamed-place f Four Sixteen off t.value same left came c.of.ensures (λ _. omega (arith, full));
      live = renamed-live f Four Sixteen off t.value same left came;
      kind = omega arith;
      spares = renamed-lowers f Four Sixteen off t.value same left came refl full;
    }
