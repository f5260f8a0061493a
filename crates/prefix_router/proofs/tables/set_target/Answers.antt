use Rattle.std.proofs.Common.{rules, ◌∙◌, ap, sym, Option, Some, Vec, ℕ, subst, option_map, is_some, set}
use Rattle.std.specs.Global.{Global}
use Rattle.blart_keys.specs.KeyBytes.{vec_bytes}
use Rattle.blart_keys.specs.Stored.{kept_pair, pair_at, Updates}
use Rattle.blart_keys.proofs.StoredLemmas.{is_some-map}
use Rattle.blart_map.specs.Content.{pairs}
use Rattle.prefix_router.specs.Tables.{all_mounts}
use Rattle.prefix_router.proofs.PlaceLemmas.{place_of, found_place, updates_at, length_kept, not_refused}
use Rattle.prefix_router.proofs.tables.set_target.Goals as goal

pub returns : goal.returns
returns g c =
    let at = place_of vec_bytes pairs c.args.tables.now.items c.args.place c.args.path.items c.requires c.index_mut-table.result.now c.index_mut-table.ensures.value in
    let same = found_place vec_bytes pairs c.args.tables.now.items c.args.place c.index_mut-table.result.now c.args.path.items at.0 at.1 in
    record {
      old = c.in-Ok.ensures.old ∙ ap (λ (o : Option (Vec ℕ Global × g.row.V.Denot)). option_map (λ p. p.1) o) (sym same);
      some = ap is_some c.in-Ok.ensures.old ∙ is_some-map (λ (p : Vec ℕ Global × g.row.V.Denot). p.1) (pair_at vec_bytes (pairs c.index_mut-table.result.now) c.args.path.items) ∙ at.1;
      updates = subst (λ (o : Option (Vec ℕ Global × g.row.V.Denot)). Updates vec_bytes (all_mounts c.args.tables.now.items) (all_mounts (set c.args.tables.now.items c.args.place c.try_insert.new.self)) c.args.path.items (Some (kept_pair o (c.args.path, c.args.target)))) (sym same) (updates_at vec_bytes pairs c.args.tables.now.items c.args.place c.index_mut-table.result.now c.try_insert.new.self c.args.path.items (kept_pair (pair_at vec_bytes (pairs c.index_mut-table.result.now) c.args.path.items) (c.args.path, c.args.target)) at.0 c.in-Ok.ensures.updates);
      len = length_kept vec_bytes pairs c.args.tables.now.items c.args.place c.index_mut-table.result.now c.try_insert.new.self c.args.path.items at.0.within at.0.is at.1 c.in-Ok.old c.in-Ok.ensures.old c.in-Ok.ensures.len;
      tables = search rules;
    }

pub unreachable-requires : goal.unreachable-requires
unreachable-requires g c =
    let at = place_of vec_bytes pairs c.args.tables.now.items c.args.place c.args.path.items c.requires c.index_mut-table.result.now c.index_mut-table.ensures.value in
    not_refused vec_bytes (pairs c.index_mut-table.result.now) c.law.ensures.content c.args.path.items at.1 _ c.in-Err.ensures.why
