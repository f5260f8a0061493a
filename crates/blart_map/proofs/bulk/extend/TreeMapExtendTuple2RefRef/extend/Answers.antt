use Rattle.std.proofs.Common.{◌≡◌, false, map}
use Rattle.std.specs.Map.Iter.{deref_pair}
use Rattle.blart_keys.specs.Bulk.{PutsAll}
use Rattle.blart_keys.specs.Content.{stores}
use Rattle.blart_keys.specs.Steps.{bytes}
use Rattle.blart_keys.specs.Stored.{kept_pair}
use Rattle.blart_map.specs.Content.{pairs}
use Rattle.blart_map.proofs.Extended.{extends_with}
use Rattle.blart_map.proofs.bulk.extend.TreeMapExtendTuple2RefRef.extend.Goals as goal

pub returns : goal.returns
returns g c =
    let kb = g.K.AsBytes.bytes in record {
      ran = extends_with g.U.IntoIterator.into_iter_gives g.U.IntoIter.Iterator.next_gives (λ old xs new. PutsAll (bytes kb) kept_pair (pairs old) (map deref_pair xs) (pairs new)) (λ x. stores (bytes kb) (pairs c.extend_copied.new.self) (kb x.0.now) ≡ false) c.args.items c.into_iter-items.result c.args.self.now c.extend_copied.new.self c.extend_copied.result c.into_iter-items.ensures.into_iter_gives c.extend_copied.ensures;
    }
