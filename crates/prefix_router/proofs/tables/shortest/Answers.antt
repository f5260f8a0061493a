use Rattle.std.proofs.Common.{◌&&◌, leb, length}
use Rattle.blart_keys.specs.Bytes.{begins}
use Rattle.blart_keys.specs.KeyBytes.{vec_bytes}
use Rattle.blart_keys.specs.Stored.{shown}
use Rattle.blart_map.specs.Content.{pairs}
use Rattle.prefix_router.specs.Best.{is_shorter}
use Rattle.prefix_router.proofs.BestLemmas.{shorter_ranks}
use Rattle.prefix_router.proofs.TableLemmas.{best_start, best_more}
use Rattle.prefix_router.proofs.tables.shortest.Goals as goal

pub loop-table-init : goal.loop-table-init
loop-table-init g c = best_start vec_bytes (λ r. begins r c.args.path.now && leb c.args.least (length r)) is_shorter

pub loop-table-preserved : goal.loop-table-preserved
loop-table-preserved g c =
    best_more vec_bytes (λ r. begins r c.args.path.now && leb c.args.least (length r)) is_shorter pairs shorter_ranks
    c.args.tables.now c.loop-table.table-index c.table-item.result c.loop-table-test.true c.table-item.is
    (shown c.loop-table.best) (shown c.long_front_in.result) (shown c.shorter-best.result)
    c.loop-table.invariant c.long_front_in.ensures c.shorter-best.ensures
