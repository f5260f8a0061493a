use Rattle.std.proofs.Common.{◌≡◌, ◌≤◌, length}
use Rattle.blart_set.specs.Extracting.{extract_left, CanExtract, AsksUpTo}
use Rattle.blart_set.proofs.extracting.ExtractIfIterator.next.Given as goal

abbrev pub invariant-loop-id : goal.invariant-loop-id
invariant-loop-id g l =
    CanExtract g.F.FnMut l.self
    × (l.self.set.ghost_name ≡ l.fn.self.set.ghost_name)
    × (l.self.set.now ≡ l.fn.self.set.now)
    × (length (extract_left l.self) ≤ length (extract_left l.fn.self))
    × ((r : _) (left : _) (f' : _) → AsksUpTo g.F.FnMut (extract_left l.self) l.self.pred r left f' → AsksUpTo g.F.FnMut (extract_left l.fn.self) l.fn.self.pred r left f')

abbrev pub decreases-loop-id : goal.decreases-loop-id
decreases-loop-id g l = length (extract_left l.self)
