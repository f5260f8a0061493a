use Rattle.std.proofs.Common.{◌&&◌}
use Rattle.blart_keys.specs.Bounds.{is_from_start, slice_bound}
use Rattle.blart_keys.specs.Bytes.{begins, less}
use Rattle.blart_keys.specs.KeyBytes.{vec_bytes}
use Rattle.blart_keys.specs.Stored.{shown}
use Rattle.blart_map.specs.Content.{pairs}
use Rattle.prefix_router.proofs.BestLemmas.{less_ranks}
use Rattle.prefix_router.proofs.TableLemmas.{best_start, best_more}
use Rattle.prefix_router.proofs.tables.first_under.Goals as goal

pub loop-table-init : goal.loop-table-init
loop-table-init g c = best_start vec_bytes (λ r. is_from_start (slice_bound c.args.low) r && begins c.args.front.now r) less

pub loop-table-preserved : goal.loop-table-preserved
loop-table-preserved g c =
    best_more vec_bytes (λ r. is_from_start (slice_bound c.args.low) r && begins c.args.front.now r) less pairs less_ranks
    c.args.tables.now c.loop-table.table-index c.table-item.result c.loop-table-test.true c.table-item.is
    (shown c.loop-table.best) (shown c.first_in.result) (shown c.lesser-best.result)
    c.loop-table.invariant c.first_in.ensures c.lesser-best.ensures
