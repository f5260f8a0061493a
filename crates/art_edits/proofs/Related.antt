-- The pairs to which a key is related, and entries.
pub mod EntryOf
pub mod OverWritten
pub mod Thinning
