use Rattle.std.proofs.Common.{arith}
use Rattle.blart_keys.specs.Bytes.{begins}
use Rattle.blart_keys.specs.KeyBytes.{vec_bytes}
use Rattle.blart_keys.specs.Stored.{shown}
use Rattle.blart_map.specs.Content.{pairs}
use Rattle.prefix_router.specs.Best.{is_longer}
use Rattle.prefix_router.proofs.BestLemmas.{longer_ranks}
use Rattle.prefix_router.proofs.TableLemmas.{best_start, best_more, some_grows}
use Rattle.prefix_router.proofs.tables.longest.Goals as goal

pub loop-table-init : goal.loop-table-init
loop-table-init g c = (best_start vec_bytes (λ r. begins r c.args.path.now) is_longer, omega arith, omega arith, tt)

pub loop-table-preserved : goal.loop-table-preserved
loop-table-preserved g c =
    let i = c.loop-table.invariant in (
      best_more vec_bytes (λ r. begins r c.args.path.now) is_longer pairs longer_ranks
          c.args.tables.now c.loop-table.table-index c.table-item.result c.loop-table-test.true c.table-item.is
          (shown c.loop-table.best) (shown c.front_in.result) (shown c.longer-best.result)
          i.0 c.front_in.ensures.best c.longer-best.ensures,
      omega (arith, i.1, c.front_in.ensures.counted),
      omega (arith, i.2, c.front_in.ensures.grows),
      some_grows vec_bytes is_longer c.loop-table.best c.front_in.result c.longer-best.result _ _ _ c.longer-best.ensures i.3 c.front_in.ensures.some_counted i.2 c.front_in.ensures.grows,
    )
