use Rattle.std.proofs.Common.{refl, ap, option_map}
use Rattle.std.specs.Option.{unwrap_or}
use Rattle.std.specs.Prelude.{[]}
use Rattle.blart_keys.proofs.Options.{is_some}
use Rattle.art_tree.specs.Leaves.{leaf_in}
use Rattle.blart_map.specs.Content.{pairs}
use Rattle.art_edits.proofs.Placed.Setting.{placed_entry_set}
use Rattle.art_edits.proofs.Placed.TakenBack.{taken_back_at}
use Rattle.blart_map.proofs.vacant.VacantEntry+K+V+PREFIX_LEN+TreeMap+K+V+PREFIX_LEN.insert_entry.Goals as goal

pub invariant_of-result : goal.invariant_of-result
invariant_of-result g c = record { stands = is_some (leaf_in c.place_new.new.self c.in_ok-leaf.leaf) (c.args.self.key, c.args.value) c.in_ok-leaf.ensures.placed.now }

pub returns : goal.returns
unfolding pairs
returns g c =
    let kb = g.K.AsBytes.bytes in
    let same = ap (λ o. unwrap_or (option_map (λ x. kb x.0) o) []) c.in_ok-leaf.ensures.placed.now in
    let set = placed_entry_set kb c.args.self.map.now c.args.self.map.now c.place_new.new.self refl c.in_ok-leaf.ensures.placed.content c.in_ok-leaf.leaf c.args.self.key c.args.value c.args.self.absent c.in_ok-leaf.ensures.placed.put c.in_ok-leaf.ensures.placed.whole c.in_ok-leaf.ensures.placed.distinct c.in_ok-leaf.ensures.placed.now in (
      (refl, (λ w. refl), tt),
      record {
        stands = tt;
        set = record {
          same_map = refl;
          set = set;
          pair = c.in_ok-leaf.ensures.placed.now;
          same_bytes = same;
        };
        undone = λ n r. taken_back_at kb c.args.self.map.now c.in_ok-leaf.ensures.placed.content c.args.self.key c.args.value c.args.self.absent (pairs c.place_new.new.self) set.3 _ same (pairs n) r.2;
      },
    )
