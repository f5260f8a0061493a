use Rattle.std.proofs.Common.{take, ◌&&◌, leb, length}
use Rattle.blart_keys.specs.Bytes.{begins}
use Rattle.blart_keys.specs.KeyBytes.{vec_bytes}
use Rattle.blart_keys.specs.Stored.{shown}
use Rattle.prefix_router.specs.Best.{IsBest, is_shorter}
use Rattle.prefix_router.specs.Tables.{all_mounts}
use Rattle.prefix_router.proofs.tables.shortest.Given as goal

abbrev pub invariant-loop-table : goal.invariant-loop-table
invariant-loop-table g l = IsBest vec_bytes (λ r. begins r l.path && leb l.least (length r)) is_shorter (all_mounts (take l.table-index l.tables)) (shown l.best)
