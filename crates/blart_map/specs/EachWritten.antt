-- What a walk that lends values leaves, if a closure is called on each of them.
pub use Rattle.art_walk.specs.EachWritten.{CalledAtEach, SomeCallAt, CallableInTurn, with_values, with_values_where, written_with, WritesLeft, WritesEach, WritesWhere, LeavesValue, TakesAtValue, ActsOnValue, LeavesPair, TakesAtPair, ActsOnPair, ActsWhere}
