use Rattle.std.proofs.Common.{◌≡◌, take, None}
use Rattle.blart_keys.specs.KeyBytes.{vec_bytes}
use Rattle.blart_keys.specs.Stored.{pair_at}
use Rattle.prefix_router.specs.Tables.{all_mounts}
use Rattle.prefix_router.proofs.tables.target_at.Given as goal

abbrev pub invariant-loop-table : goal.invariant-loop-table
invariant-loop-table g l = pair_at vec_bytes (all_mounts (take l.table-index l.tables)) l.path ≡ None
