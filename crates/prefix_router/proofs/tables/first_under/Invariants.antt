use Rattle.std.proofs.Common.{take, ◌&&◌}
use Rattle.blart_keys.specs.Bounds.{is_from_start, slice_bound}
use Rattle.blart_keys.specs.Bytes.{begins, less}
use Rattle.blart_keys.specs.KeyBytes.{vec_bytes}
use Rattle.blart_keys.specs.Stored.{shown}
use Rattle.prefix_router.specs.Best.{IsBest}
use Rattle.prefix_router.specs.Tables.{all_mounts}
use Rattle.prefix_router.proofs.tables.first_under.Given as goal

abbrev pub invariant-loop-table : goal.invariant-loop-table
invariant-loop-table g l = IsBest vec_bytes (λ r. is_from_start (slice_bound l.low) r && begins l.front r) less (all_mounts (take l.table-index l.tables)) (shown l.best)
