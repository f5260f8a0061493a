pub mod Copied
pub mod Held
pub mod Lent
pub mod Owned
pub mod Paged
