use Rattle.std.proofs.Common.{false, length, reverse}
use Rattle.art_walk.specs.Cursor.{leaves_left}
use Rattle.art_walk.specs.Extracting.{stands_at}
use Rattle.art_walk.proofs.Extracted.{Extracting}
use Rattle.art_walk.proofs.extracting.extract_last.Given as goal

abbrev pub invariant-pairs : goal.invariant-pairs
invariant-pairs g l =
    let all = leaves_left l.initial.cursor l.initial.tree.pairs in
    Extracting g.F.FnMut false (stands_at l.initial.tree.pairs l.initial.pred (reverse all)) (length all) l.tree.pairs l.cursor l.pred

abbrev pub decreases-pairs : goal.decreases-pairs
decreases-pairs g l = length (leaves_left l.cursor l.tree.pairs)
