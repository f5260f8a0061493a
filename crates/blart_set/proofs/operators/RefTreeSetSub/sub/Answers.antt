use Rattle.std.proofs.Common.{not, refl}
use Rattle.blart_keys.specs.Content.{stores}
use Rattle.blart_keys.specs.Merges.{difference}
use Rattle.blart_keys.proofs.MergeLemmas.{filter_ascends, difference_elements}
use Rattle.blart_set.specs.Elements.{elements}
use Rattle.blart_set.specs.Merging.{difference_rest}
use Rattle.blart_set.proofs.Cloned.{all_cloned}
use Rattle.blart_set.proofs.operators.RefTreeSetSub.sub.Goals as goal

pub returns : goal.returns
returns g c =
    let kb = g.K.AsBytes.bytes in
    let A = elements c.args.self.now in
    let B = elements c.args.other.now in (
      difference kb A B,
      refl,
      all_cloned kb g.K.Clone.is_clone elements (difference_rest kb) c.difference.result (difference kb A B) c.difference.ensures.value (filter_ascends kb (λ x. not (stores kb B (kb x))) A c.law.ensures.content.ascends) (λ x y m k. c.requires x y ((difference_elements kb A B x).0 m).0 k) c.of_clones.result c.of_clones.ensures.made c.of_clones.ensures.refused,
    )
