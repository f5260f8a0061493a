pub mod Freeing
pub mod Joining
pub mod Making
pub mod PlacedShapes
pub mod Unlinking
