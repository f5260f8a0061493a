-- The most visits that the opening of a walk makes.
pub use Rattle.art_tree.specs.Longest.{longest}
pub use Rattle.art_walk.specs.Openings.{longer, opening}
