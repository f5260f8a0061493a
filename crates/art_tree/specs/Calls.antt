pub mod Building
pub mod Descents
pub mod Forks
pub mod Placing
pub mod Pruning
pub mod Removing
pub mod Seeking
pub mod Stops
