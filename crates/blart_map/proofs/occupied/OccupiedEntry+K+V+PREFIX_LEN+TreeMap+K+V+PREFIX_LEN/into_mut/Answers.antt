use Rattle.std.proofs.Common.{refl}
use Rattle.blart_map.specs.Content.{pairs}
use Rattle.art_edits.proofs.Placed.Setting.{occupied_set}
use Rattle.blart_map.proofs.occupied.OccupiedEntry+K+V+PREFIX_LEN+TreeMap+K+V+PREFIX_LEN.into_mut.Goals as goal

pub returns : goal.returns
unfolding pairs
returns g c =
    let o = c.args.self in (
      (refl, λ w. refl),
      record {
        writes_back = tt;
        value = c.value_mut.ensures.value;
        written = λ w. occupied_set g.K.AsBytes.bytes o.map.now c.numbers_law.ensures.content c.numbers_law.ensures.distinct o.id o.stands w;
      },
    )
