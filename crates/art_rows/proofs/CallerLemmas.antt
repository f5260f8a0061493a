-- What callers need: lemmas about numbered items.
-- which numbers there are
pub use Rattle.art_rows.proofs.NumbersLemmas.{leaf_in_lacking, Lacks-from_leaf_in, has_not_lacks, has_other, Has-tail, Has-first, Has-last, Has-after, Has-before, no_first, no_last, Lacks-parts, distinct_parts, AreDistinct-parts, last_number-append}
-- the list split at a number
pub use Rattle.art_rows.proofs.NumbersLemmas.{split, leaf_in-split, number_after-split, number_before-split, without_number-split, with_pair-split}
-- one more item
pub use Rattle.art_rows.proofs.NumbersLemmas.{leaf_in-placed_now, others-with_pair_after}
-- one item less
pub use Rattle.art_rows.proofs.NumbersLemmas.{length-without_number, AreDistinct-without_number, others-without_number, leaf_in-without_now}
pub use Rattle.art_rows.proofs.Ends.{first_off, last_off}
-- another item under a number
pub use Rattle.art_rows.proofs.NumbersLemmas.{leaf_in-with_now, others-with_pair}
-- lists of the same numbers
pub use Rattle.art_rows.proofs.NumbersLemmas.{same_first, same_last, same_distinct}
-- copies
pub use Rattle.art_rows.proofs.Copies.{numbers-copies}
