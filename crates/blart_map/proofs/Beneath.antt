-- Lemmas of the layers beneath, for the proofs of a container on the map.
pub use Rattle.art_edits.proofs.Moved.BulkPuts.{first_came, on_ok, puts_more, puts_same, refused_some}
pub use Rattle.art_edits.proofs.Placed.Tried.{tried_len, tried_updates}
pub use Rattle.art_walk.proofs.Callable.{middle}
pub use Rattle.art_walk.proofs.Lending.{from_test, to_test}
pub use Rattle.art_walk.proofs.Retained.{retains_none, retains_kept, retains_gone}
