pub mod CallerLemmas
pub mod PairEnds
pub mod Spans
pub mod Steps
mod Runs
mod BeginsLemmas
mod PairLists
mod NumberedPairs
mod Invariant
mod Ways
mod Calls
