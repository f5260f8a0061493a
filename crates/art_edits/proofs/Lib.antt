pub mod Numbers
pub mod Moved
pub mod Placed
pub mod Related
