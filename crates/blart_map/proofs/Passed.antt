-- What a walk has passed, and its ends.
pub mod EndPairs
pub mod Opening
pub mod PassedLeaves
pub mod Walking
