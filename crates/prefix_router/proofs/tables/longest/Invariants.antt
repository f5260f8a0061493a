use Rattle.std.proofs.Common.{take, length, ◌+◌, ◌*◌, ◌<◌, ◌≤◌}
use Rattle.std.specs.Prelude.{IfSome}
use Rattle.blart_keys.specs.Bytes.{begins}
use Rattle.blart_keys.specs.KeyBytes.{vec_bytes}
use Rattle.blart_keys.specs.Stored.{shown}
use Rattle.prefix_router.specs.Best.{IsBest, is_longer}
use Rattle.prefix_router.specs.Tables.{all_mounts}
use Rattle.prefix_router.proofs.tables.longest.Given as goal

abbrev pub invariant-loop-table : goal.invariant-loop-table
invariant-loop-table g l =
    IsBest vec_bytes (λ r. begins r l.path) is_longer (all_mounts (take l.table-index l.tables)) (shown l.best)
    × (l.visits.count ≤ l.initial.visits.count + l.table-index * (length l.path + 1))
    × (l.initial.visits.count ≤ l.visits.count)
    × IfSome l.best (λ _. l.initial.visits.count < l.visits.count)
