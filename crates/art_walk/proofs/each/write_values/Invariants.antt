use Rattle.std.proofs.Common.{length}
use Rattle.art_tree.specs.Leaves.{AreDistinct}
use Rattle.art_tree.specs.Pairs.{pairs_of}
use Rattle.art_walk.specs.Cursor.{leaves_left, FitsIn}
use Rattle.art_walk.specs.EachWritten.{CallableInTurn, LeavesValue, TakesAtValue}
use Rattle.art_walk.proofs.Writing.{Writing}
use Rattle.art_walk.proofs.each.write_values.Given as goal

abbrev pub invariant-leaves : goal.invariant-leaves
invariant-leaves g l =
    let left = leaves_left l.cursor l.tree.pairs in
    record {
      callable : CallableInTurn (LeavesValue g.F.FnMut) (TakesAtValue g.F.FnMut) l.f (pairs_of left);
      fits : FitsIn l.cursor l.tree.pairs;
      distinct : AreDistinct l.tree.pairs;
      writing : Writing (LeavesValue g.F.FnMut) (leaves_left l.initial.cursor l.initial.tree.pairs) l.initial.tree.pairs l.initial.f left l.tree.pairs l.f;
    }

abbrev pub decreases-leaves : goal.decreases-leaves
decreases-leaves g l = length (leaves_left l.cursor l.tree.pairs)
