use Rattle.std.proofs.Common.{arith, ap}
use Rattle.std.proofs.lemmas.Result.{on_err_weaker}
use Rattle.art_rows.specs.Rows.{lengths}
use Rattle.art_tree.proofs.PairLists.{row_end_room-le}
use Rattle.art_tree.proofs.pair_list.Pairs.reserve.Goals as goal

pub returns-clause-short : goal.returns-clause-short
returns-clause-short g c =
    let room = ap (λ t. t.end_room) c.self.view_is in
    let last = row_end_room-le (lengths c.self.inside.leaves.rows) in
    on_err_weaker c.reserve_end.result (λ n. omega (arith, room, last, n)) c.reserve_end.ensures.needed
