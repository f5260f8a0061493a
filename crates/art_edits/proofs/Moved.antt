-- The pairs after calls that insert or move many pairs.
pub mod Appending
pub mod AtEnd
pub mod BulkPuts
pub mod Moving
pub mod Parting
