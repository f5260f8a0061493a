use Rattle.std.proofs.Common.{◌∙◌, ap, sym, take, [], refl, List, Vec, ℕ}
use Rattle.std.specs.Global.{Global}
use Rattle.blart_keys.specs.KeyBytes.{vec_bytes}
use Rattle.blart_keys.specs.Stored.{pair_at}
use Rattle.blart_keys.proofs.StoredLemmas.{nothing_stored}
use Rattle.blart_map.specs.Content.{pairs}
use Rattle.prefix_router.specs.Tables.{all_mounts}
use Rattle.prefix_router.proofs.TableLemmas.{flat_more, no_value, none_append, value_found_at}
use Rattle.prefix_router.proofs.tables.target_at.Goals as goal

pub loop-table-init : goal.loop-table-init
loop-table-init g c = nothing_stored {V = g.row.V.Denot} vec_bytes [] refl c.args.path.now

pub loop-table-preserved : goal.loop-table-preserved
loop-table-preserved g c =
    ap (λ (S : List (Vec ℕ Global × g.row.V.Denot)). pair_at vec_bytes S c.args.path.now) (flat_more pairs c.args.tables.now c.loop-table.table-index c.table-item.result c.loop-table-test.true c.table-item.is)
    ∙ none_append vec_bytes (all_mounts (take c.loop-table.table-index c.args.tables.now)) (pairs c.table-item.result) c.args.path.now c.loop-table.invariant (no_value vec_bytes (pairs c.table-item.result) c.args.path.now (sym c.in_default.ensures.stored))

pub returns-in-Some : goal.returns-in-Some
returns-in-Some g c =
    sym (value_found_at vec_bytes pairs c.args.tables.now c.loop-table.table-index c.table-item.result c.loop-table-test.true c.table-item.is c.args.path.now c.loop-table.invariant c.in-Some.target.now (sym c.in-Some.ensures.stored))
