pub mod Codes
pub mod Edges
pub mod Numbers
pub mod Narrow
pub mod Nodes
pub mod OneKinds
pub mod Refs
pub mod Words
