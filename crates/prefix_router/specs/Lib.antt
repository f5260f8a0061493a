pub mod Nesting
pub mod Best
pub mod Tables
