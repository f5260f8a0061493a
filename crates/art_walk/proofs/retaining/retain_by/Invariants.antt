use Rattle.std.proofs.Common.{length}
use Rattle.blart_keys.specs.Walks.{AsksPair}
use Rattle.art_tree.specs.Leaves.{AreDistinct}
use Rattle.art_tree.specs.Pairs.{pairs_of}
use Rattle.art_walk.specs.Cursor.{leaves_left, FitsIn}
use Rattle.art_walk.proofs.Asking.{Retaining}
use Rattle.art_walk.proofs.Callable.{Callable}
use Rattle.art_walk.proofs.retaining.retain_by.Given as goal

abbrev pub invariant-pairs : goal.invariant-pairs
invariant-pairs g l =
    let left = leaves_left l.cursor l.tree.pairs in
    record {
      callable : Callable g.F.FnMut l.f (pairs_of left);
      fits : FitsIn l.cursor l.tree.pairs;
      distinct : AreDistinct l.tree.pairs;
      retaining : Retaining (AsksPair g.F.FnMut) (pairs_of l.initial.tree.pairs) l.initial.f l.tree.pairs left l.f;
    }

abbrev pub decreases-pairs : goal.decreases-pairs
decreases-pairs g l = length (leaves_left l.cursor l.tree.pairs)
