use Rattle.std.proofs.Common.{◌≡◌, false, map}
use Rattle.blart_keys.specs.Bulk.{PutsAll}
use Rattle.blart_keys.specs.Content.{stores}
use Rattle.blart_keys.specs.Stored.{kept_item}
use Rattle.blart_map.proofs.Extended.{extends_with}
use Rattle.blart_set.specs.Elements.{elements}
use Rattle.blart_set.proofs.bulk.extend.TreeSetExtendRef.extend.Goals as goal

pub returns : goal.returns
returns g c =
    let kb = g.K.AsBytes.bytes in record {
      ran = extends_with g.U.IntoIterator.into_iter_gives g.U.IntoIter.Iterator.next_gives (λ old xs new. PutsAll kb kept_item (elements old) (map (λ x. x.now) xs) (elements new)) (λ x. stores kb (elements c.extend_copied.new.self) (kb x.now) ≡ false) c.args.items c.into_iter-items.result c.args.self.now c.extend_copied.new.self c.extend_copied.result c.into_iter-items.ensures.into_iter_gives c.extend_copied.ensures;
    }
