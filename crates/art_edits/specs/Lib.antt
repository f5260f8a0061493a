pub mod Bulk
pub mod Places
pub mod Reserved
pub mod Spans
