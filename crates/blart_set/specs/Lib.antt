pub mod Asking
pub mod Clones
pub mod Elements
pub mod Extracting
pub mod Merge
pub mod Merging
pub mod Reserved
