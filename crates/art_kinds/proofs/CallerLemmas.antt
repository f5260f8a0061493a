-- What callers need: nodes by kind and place, the room for placements, and edges that ascend.
pub use Rattle.art_kinds.proofs.EdgeShifts.{AscendsAbove-Ascends}
pub use Rattle.art_kinds.proofs.Growing.{at_is, fits_more}
pub use Rattle.art_kinds.proofs.Rooms.{room-same, room-placed, Lowers-same}
