-- Definitions of lower layers that the contracts of a container on the map cite.
pub use Rattle.art_walk.specs.Asking.{RetainsBy}
pub use Rattle.art_walk.specs.Lent.{walk_fits, numbers}
pub use Rattle.art_walk.specs.declared.cursor.Cursor.{Cursor}
