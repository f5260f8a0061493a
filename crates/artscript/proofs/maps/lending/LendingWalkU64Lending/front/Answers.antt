use Rattle.std.proofs.Common.{ap, lit<}
use Rattle.std.specs.Option.{is_some}
use Rattle.artscript.proofs.maps.lending.LendingWalkU64Lending.front.Goals as goal

pub key-requires : goal.key-requires
key-requires g c = (lit< tt, ap is_some (c.next.follows.holds c.raise-was.new.value c.in-Some.value c.in-Some.is).1.is_last)
