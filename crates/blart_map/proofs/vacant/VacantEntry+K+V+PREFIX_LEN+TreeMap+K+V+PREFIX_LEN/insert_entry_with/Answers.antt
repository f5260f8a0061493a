use Rattle.std.proofs.Common.{refl, ap, option_map}
use Rattle.std.specs.Option.{unwrap_or}
use Rattle.std.specs.Prelude.{[]}
use Rattle.blart_keys.proofs.Options.{is_some}
use Rattle.art_tree.specs.Leaves.{leaf_in}
use Rattle.blart_map.specs.Content.{pairs}
use Rattle.art_edits.proofs.Placed.Setting.{placed_entry_set}
use Rattle.blart_map.proofs.vacant.VacantEntry+K+V+PREFIX_LEN+TreeMap+K+V+PREFIX_LEN.insert_entry_with.Goals as goal

pub invariant_of-result : goal.invariant_of-result
invariant_of-result g c = record { stands = is_some (leaf_in c.place_new_with.new.self c.in_ok-id.id) (c.args.self.key, c.in_ok-id.ensures.placed.0) c.in_ok-id.ensures.placed.2.now }

pub returns : goal.returns
unfolding pairs
returns g c =
    let kb = g.K.AsBytes.bytes in
    let set = placed_entry_set kb c.args.self.map.now c.args.self.map.now c.place_new_with.new.self refl c.in_ok-id.ensures.placed.2.content c.in_ok-id.id c.args.self.key c.in_ok-id.ensures.placed.0 c.args.self.absent c.in_ok-id.ensures.placed.2.put c.in_ok-id.ensures.placed.2.whole c.in_ok-id.ensures.placed.2.distinct c.in_ok-id.ensures.placed.2.now in (
      (refl, (λ w. refl), tt),
      record {
        stands = tt;
        set = (
          c.in_ok-id.ensures.placed.0,
          c.in_ok-id.ensures.placed.1,
          record {
            same_map = refl;
            set = set;
            pair = c.in_ok-id.ensures.placed.2.now;
            same_bytes = ap (λ o. unwrap_or (option_map (λ x. kb x.0) o) []) c.in_ok-id.ensures.placed.2.now;
          },
        );
      },
    )
