use Rattle.std.proofs.Common.{refl, ap, true}
use mathlib.Core.Bool.{Bool-set}
use Rattle.blart_map.specs.Content.{pairs}
use Rattle.blart_map.specs.OccupiedEntry.{Has-with_value, with_entry_value}
use Rattle.art_edits.proofs.Placed.Setting.{occupied_set, bytes_written, pair_written}
use Rattle.blart_map.proofs.occupied.OccupiedEntry.get_mut.Goals as goal

pub invariant_of-self-lent : goal.invariant_of-self-lent
invariant_of-self-lent g c w = let o = c.args.self.now in (Has-with_value o.map.now o.id w o.id o.stands, tt)

pub returns : goal.returns
unfolding pairs
returns g c =
    let o = c.args.self.now in
    let kb = g.K.AsBytes.bytes in
    let ps = o.map.now in (
      (refl, λ w. ap (λ q. record (with_entry_value o w) { stands = q }) (Bool-set _ true _ (with_entry_value o w).stands)),
      record {
        writes_back = tt;
        value = c.value_mut.ensures.value;
        written = λ w. record {
          same_map = refl;
          set = occupied_set kb ps c.numbers_law.ensures.content c.numbers_law.ensures.distinct o.id o.stands w;
          pair = pair_written kb ps o.id w;
          same_bytes = bytes_written kb ps o.id w;
        };
      },
    )
