use Rattle.std.proofs.Common.{refl}
use Rattle.blart_map.specs.Content.{pairs}
use Rattle.blart_map.specs.OccupiedEntry.{Has-with_value}
use Rattle.art_edits.proofs.Placed.Setting.{occupied_set, bytes_written, pair_written}
use Rattle.blart_map.proofs.occupied.OccupiedEntry+K+V+PREFIX_LEN+TreeMap+K+V+PREFIX_LEN.set.Goals as goal

pub invariant_of-result : goal.invariant_of-result
invariant_of-result g c =
    let o = c.args.self in
    record { stands = Has-with_value o.map.now o.id c.args.value o.id o.stands }

pub returns : goal.returns
unfolding pairs
returns g c =
    let o = c.args.self in
    let kb = g.K.AsBytes.bytes in
    let ps = o.map.now in
    let w = c.args.value in (
      (refl, (λ w. refl), tt),
      record {
        stands = tt;
        set = record {
          same_map = refl;
          set = occupied_set kb ps c.numbers_law.ensures.content c.numbers_law.ensures.distinct o.id o.stands w;
          pair = pair_written kb ps o.id w;
          same_bytes = bytes_written kb ps o.id w;
        };
        never = tt;
      },
    )
