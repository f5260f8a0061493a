use Rattle.std.proofs.Common.{◌≡◌, false}
use Rattle.blart_keys.specs.Bulk.{PutsAll}
use Rattle.blart_keys.specs.Content.{stores}
use Rattle.blart_keys.specs.Stored.{kept_item}
use Rattle.blart_map.proofs.Extended.{extends_with}
use Rattle.blart_set.specs.Elements.{elements}
use Rattle.blart_set.proofs.bulk.extend.TreeSetExtend.extend.Goals as goal

pub returns : goal.returns
returns g c =
    let kb = g.K.AsBytes.bytes in record {
      ran = extends_with g.U.IntoIterator.into_iter_gives g.U.IntoIter.Iterator.next_gives (λ old xs new. PutsAll kb kept_item (elements old) xs (elements new)) (λ x. stores kb (elements c.extend.new.self) (kb x) ≡ false) c.args.items c.into_iter-items.result c.args.self.now c.extend.new.self c.extend.result c.into_iter-items.ensures.into_iter_gives c.extend.ensures;
    }
