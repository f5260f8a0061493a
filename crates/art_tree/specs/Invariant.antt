pub mod EdgesAbove
pub mod Shape
pub mod Sound
