pub mod Beneath
pub mod CallerLemmas
pub mod Extended
pub mod Passed
pub mod Popped
pub mod Related
pub mod Taken
pub mod Written
