-- Lemmas about maps for callers.
-- look-ups: a stored pair is found, also by what begins with its bytes; a found pair has the bytes
pub use Rattle.blart_keys.proofs.StoredLemmas.{stores_is, pair_at_bytes, pair_at_front_begins, pair_at_front_at, before_agrees, pair_at_member, stored_at, nothing_stored}
-- what a list has at some bytes after a change
pub use Rattle.blart_keys.proofs.StoredLemmas.{updates_put, len_put, before_put, overwrites_over, before_over, updates_without, len_without, takes_first, takes_last, writes_at, writes_before}
-- what a query finds after a pair is put over the related ones; what overlaps beside a stored key,
-- and after an update
pub use Rattle.blart_keys.proofs.Overwritten.{routes_over}
pub use Rattle.blart_keys.proofs.Overlapped.{overlaps_near, overlaps_apart, overlaps_put}
-- what a walk from both ends returned
pub use Rattle.blart_keys.proofs.WalkLemmas.{walked_start, walked_first, walked_last, walked_end}
-- a map split in two, and joined again
pub use Rattle.art_edits.proofs.Moved.Appending.{joined_parts}
-- a new pair that an entry placed and then removed
pub use Rattle.art_edits.proofs.Placed.TakenBack.{taken_back}
-- what is kept by a closure that depends on the pair alone, or counts; what is written by one that
-- keeps each pair
pub use Rattle.blart_map.proofs.Taken.Filtered.{kept_by, kept_by_retained, take_from_kept, filter_from_retained, map_from_retained}
-- a pair that was lent and then kept, or taken
pub use Rattle.blart_map.proofs.Taken.OnceTaken.{kept_first, taken_first, walk_kept, walk_taken, none_to_take, none_taken}
-- a closure that may be called on each pair: always, or if a property holds that all pairs have
pub use Rattle.art_walk.proofs.Callable.{callable_on_each_pair, callable_on_such_pairs}
-- the same for a closure that `for_each` of a walk that lends calls: on the value, or on the key
-- and the value; on all pairs, or on those that pass a test
pub use Rattle.blart_map.proofs.Written.CallableInTurn.{callable_on_each_value, callable_on_such_values, callable_on_each_lent, callable_on_such_lent, callable_on_such_within}
-- one step of a walk that extracts, if its closure depends on the pair alone; and the map that it
-- leaves
pub use Rattle.blart_map.proofs.Taken.OnceExtracted.{extracted, one_out}
-- the values that are left by a closure that shows a state
pub use Rattle.blart_map.proofs.Written.WrittenInTurn.{valued_by, valued_by_each, valued_where, valued_where_each}
-- a value that a walk lent, and that was then written through `pair`
pub use Rattle.blart_map.proofs.Written.PairWritten.{pair_written, pair_written_back}
