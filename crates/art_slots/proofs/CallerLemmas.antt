-- What callers need: a store with another record under a number, the blocks of a list, and a number
-- that is moved within a block.
pub use Rattle.art_slots.proofs.StoreSlots.{with-now, with-others, with-count}
pub use Rattle.art_slots.proofs.BlocksOf.{at_block, length-block, block-set-same, block-set-other, block-take}
pub use Rattle.art_slots.proofs.Moves.{take-moved_down, take-moved_up}
