-- The words of the contracts of maps, and of the bytes of keys, in one module.
-- the bytes of a key
pub use Rattle.blart_keys.specs.KeyBytes.{u8_bytes, array_bytes, slice_bytes, vec_bytes, u16_bytes, u32_bytes, u64_bytes, u128_bytes, i32_bytes, i64_bytes, zkey_bytes, zstr_bytes, zquery_bytes, zquery_room, ref_bytes}
pub use Rattle.std.specs.Prelude.{string_bytes}
pub use Rattle.blart_keys.specs.Bytes.{begins, related, less, common}
-- what a map has at some bytes; the first three stay closed in proofs
unfoldable pub use Rattle.blart_keys.specs.Stored.{pair_at, pair_at_front, overlaps}
pub use Rattle.blart_keys.specs.Stored.{value_at, value_at_front, has, kept_key, kept_pair, kept_item, kept, shown, Updates, HasNothing, TakesPair, Overwrites, WritesAt, WritesAtFront, Refuses, CanCount}
-- what a query finds once a pair replaced others, and what overlaps once a pair was put
pub use Rattle.blart_keys.specs.Routed.{spared_item, OverlapsToo}
-- a map as a list of pairs without their numbers, closed in proofs
unfoldable pub use Rattle.blart_map.specs.Content.{pairs}
pub use Rattle.blart_map.specs.Content.{Numbered}
-- that the entries of a map fit in memory
pub use Rattle.blart_map.specs.EntryFits.{EntryFits, PrefixEntryFits}
pub use Rattle.blart_keys.specs.Steps.{bytes, Puts, Inserts, PutsOver}
pub use Rattle.blart_keys.specs.Content.{IsContent, at, stores, front_of, under, between, conflict, subtree, without, IsPut, IsOver}
pub use Rattle.blart_keys.specs.Outside.{outside}
pub use Rattle.blart_keys.specs.Bounds.{bound_bytes, is_from_start, is_up_to_end, in_order, CanRange}
pub use Rattle.blart_keys.specs.Fronts.{fronts}
-- many pairs at once
pub use Rattle.blart_keys.specs.Bulk.{PutsAll, IsAppended}
pub use Rattle.blart_map.specs.Bulk.{TakesItems, IsPairClone, AreClones, or_else}
-- an entry: the reference to its map, the stored pair and value, and the key
pub use Rattle.blart_map.specs.Entry.{entry_ref, entry_pair, entry_value, entry_key, vacant_key}
pub use Rattle.blart_map.specs.InnerEntry.{inner_ref, inner_key}
pub use Rattle.blart_map.specs.PrefixEntry.{prefix_ref}
-- a map and a set with reserved room: the reference, what it will hold, and how much room is left
pub use Rattle.blart_map.specs.Reserved.{reserved_map, held, room_left, as_tried, added, added_ok}
pub use Rattle.blart_set.specs.Reserved.{reserved_set, held_elements, elements_left, added_new, added_new_ok}
-- what a walk returned
pub use Rattle.blart_keys.specs.Walks.{TakesFirst, TakesLast, Walked}
-- on which items a closure was called, and which items it kept
pub use Rattle.blart_keys.specs.Walks.{Asked, picked, Retains, AsksPair}
-- a walk that lends: the reference to its map, the pair that it lent last, what it has left, and
-- what the map will be
pub use Rattle.blart_map.specs.LendingWalk.{lending_map, lending_last, lending_left, LendsWhere}
pub use Rattle.blart_map.specs.CountedWalk.{counted_map, counted_last, counted_left, LendsAll}
pub use Rattle.blart_map.specs.TakeWalk.{take_map, take_undecided, take_left, LentFirst, LentLast, NoneLent}
-- a cursor, which holds no map: what it has left, passes, and keeps if a pair is removed
pub use Rattle.blart_map.specs.Passed.{leaf_in, Has, Lacks, without_number, leaves_left, FitsIn, PassesFirst, PassesLast, WasFirst, WasLast, StaysLeft}
-- the most visits that the opening of a walk makes
pub use Rattle.blart_map.specs.Openings.{longest, longer, opening}
-- what a walk that takes leaves
pub use Rattle.blart_map.specs.OnceTaken.{taken_all, once_taken, still_to_take, once_extracted, still_to_extract}
pub use Rattle.blart_map.specs.ExtractIf.{extract_map, extract_pred, extract_left, CanExtract, CanExtractBack, Extraction, ExtractsFirstTrue, ExtractsNext, ExtractsNextBack}
pub use Rattle.blart_map.specs.OnceWritten.{rewritten, all_rewritten, once_written, all_once_written}
-- what a closure leaves that is called on each value
pub use Rattle.blart_map.specs.EachWritten.{CalledAtEach, CallableInTurn, with_values, with_values_where, WritesEach, WritesWhere, WritesLeft, LeavesValue, TakesAtValue, LeavesPair, TakesAtPair, ActsOnValue, ActsOnPair, ActsWhere}
-- a set as a list of elements, closed in proofs, and merges of two sets
unfoldable pub use Rattle.blart_set.specs.Elements.{elements}
pub use Rattle.blart_set.specs.Elements.{RefusesElement, UpdatesElement, OverwritesElement}
pub use Rattle.blart_set.specs.Merging.{Merge, MergeProgresses, IsBeginning, Counts, HasCompared, union_rest, symmetric_difference_rest, intersection_rest, difference_rest}
pub use Rattle.blart_keys.specs.Merges.{IsUnion, IsSymmetricDifference, intersection, difference}
-- a closure that is called on an element
pub use Rattle.blart_set.specs.Asking.{AsksElement, CallableOnEachElement}
-- clones of elements
pub use Rattle.blart_set.specs.Clones.{KeepsBytes, IsElementClone, AreElementClones, MakesClones}
