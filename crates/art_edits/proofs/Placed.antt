-- The pairs after a placement.
pub mod Adding
pub mod Again
pub mod FreePlaces
pub mod Inserting
pub mod Keeping
pub mod Setting
pub mod SettingAt
pub mod TakenBack
pub mod Tried
pub mod Writing
pub mod WrittenLeaf
