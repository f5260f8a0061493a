pub mod BestLemmas
pub mod TableLemmas
pub mod AscendingLemmas
pub mod OrderLemmas
pub mod NestingLemmas
pub mod PlaceLemmas
pub mod MountsLemmas
