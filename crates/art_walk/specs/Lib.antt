pub mod Cursor
pub mod EachWritten
pub mod Extracting
pub mod Asking
pub mod Openings
pub mod Lent
