-- The pairs to which a key is related.
pub mod InnerPairs
pub mod PrefixValues
