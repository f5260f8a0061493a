-- Lemmas about maps for callers.
pub use Rattle.blart_map.proofs.CallerLemmas.{stores_is, pair_at_bytes, pair_at_front_begins, pair_at_front_at, before_agrees, pair_at_member, stored_at, nothing_stored, updates_put, len_put, before_put, overwrites_over, before_over, routes_over, overlaps_near, overlaps_apart, overlaps_put, updates_without, len_without, takes_first, takes_last, writes_at, writes_before, walked_start, walked_first, walked_last, walked_end, joined_parts, taken_back, kept_by, kept_by_retained, take_from_kept, filter_from_retained, map_from_retained, callable_on_each_pair, callable_on_such_pairs, callable_on_each_value, callable_on_such_values, callable_on_each_lent, callable_on_such_lent, callable_on_such_within, kept_first, taken_first, walk_kept, walk_taken, none_to_take, none_taken, extracted, one_out, valued_by, valued_by_each, valued_where, valued_where_each}
-- lemmas for callers about merges of sets, and about byte order
pub use Rattle.blart_set.proofs.Laws.{union_left, union_right, union_count, union_stores, symmetric_left, symmetric_right, symmetric_count, clones_store, ordered_less, union_parts, union_unique, symmetric_unique, lacks_none}
-- what a closure keeps of a set, if it depends on the element alone
pub use Rattle.blart_set.proofs.Filtered.{filter_from_asked}
-- a closure that may be called on each element: always, or if a property holds that all have
pub use Rattle.blart_set.proofs.Callable.{callable_on_each_element, callable_on_such_elements}
-- a prefix is not longer than the list, as `&path[mount.len()..]` requires
pub use Rattle.blart_keys.specs.KeyLaws.{begins_length}
-- a value that a walk lent, and that was then written through `pair`
pub use Rattle.blart_map.proofs.CallerLemmas.{pair_written, pair_written_back}
