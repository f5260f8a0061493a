use Rattle.std.proofs.Common.{inl, inr, refl}
use Rattle.blart_set.specs.Elements.{elements}
use Rattle.blart_set.specs.Merging.{union_rest}
use Rattle.blart_set.proofs.Cloned.{all_cloned}
use Rattle.blart_set.proofs.operators.RefTreeSetBitOr.bitor.Goals as goal

pub returns : goal.returns
returns g c =
    let kb = g.K.AsBytes.bytes in
    let u = c.union.ensures.value in (
      union_rest kb c.union.result,
      u,
      all_cloned kb g.K.Clone.is_clone elements (union_rest kb) c.union.result (union_rest kb c.union.result) refl u.ascends (λ x y m k. elim ((u.elements x).0 m) [ inl a ↦ c.requires.0 x y a k | inr b ↦ c.requires.1 x y b.0 k ]) c.of_clones.result c.of_clones.ensures.made c.of_clones.ensures.refused,
    )
