use Rattle.std.proofs.Common.{length}
use Rattle.blart_keys.specs.Content.{IsContent}
use Rattle.blart_map.specs.Passed.{leaves_left, FitsIn}
use Rattle.blart_set.specs.Asking.{AsksElement, CallableOnEachElement}
use Rattle.blart_set.specs.Elements.{elements}
use Rattle.blart_set.proofs.Keeping.{Retaining}
use Rattle.blart_set.proofs.set.TreeSet.retain_by.Given as goal

abbrev pub invariant-elements : goal.invariant-elements
invariant-elements g l =
    CallableOnEachElement g.F.FnMut l.f (elements (leaves_left l.cursor l.self)) × FitsIn l.cursor l.self × IsContent g.K.AsBytes.bytes (elements l.self)
    × Retaining g.K.AsBytes.bytes (AsksElement g.F.FnMut) (elements l.initial.self) l.initial.f (elements l.self) (elements (leaves_left l.cursor l.self)) l.f

abbrev pub decreases-elements : goal.decreases-elements
decreases-elements g l = length (leaves_left l.cursor l.self)
