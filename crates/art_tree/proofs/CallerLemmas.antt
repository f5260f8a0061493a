-- Lemmas for callers: the pairs under ids, their ends and bounds, and gaps.
use Rattle.std.proofs.Common.{◌≡◌, ℕ, List, false, sym, ◌∙◌, None}
use Rattle.std.proofs.lemmas.Bool.{false≢true, false_from_ne_true}
use Rattle.blart_keys.specs.Bytes.{related, conflicts}
use Rattle.blart_keys.specs.Content.{IsContent, at, stores, conflict}
use Rattle.blart_keys.specs.Steps.{bytes as pair_bytes}
use Rattle.blart_keys.proofs.RankLemmas.{Member}
use Rattle.blart_keys.proofs.ContentLemmas.{at_absent, related-same, conflict_found, stores_found}
use Rattle.blart_keys.proofs.Mapped.{list_any-map}
use Rattle.art_tree.specs.Begins.{Bytes}
use Rattle.art_tree.specs.Leaves.{Numbered, AreDistinct, bytes, keys_in}
use Rattle.art_tree.specs.Pairs.{pairs_of}
use Rattle.art_tree.specs.Points.{IsFree}
use Rattle.art_tree.specs.declared.tree.point.Gap.{Gap}
use Rattle.art_tree.proofs.NumberedPairs.KeyChanges.{leaving_unrelated}
use Rattle.art_tree.proofs.NumberedPairs.Keys.{key_of_member}
use Rattle.art_tree.proofs.NumberedPairs.Turns.{none_begins}
-- the ids of a list, and their pairs
pub use Rattle.art_rows.proofs.CallerLemmas.{Has-tail, Has-first, Has-last, no_first, no_last, Lacks-parts, Lacks-from_leaf_in, distinct_parts, AreDistinct-parts, last_number-append}
pub use Rattle.art_tree.proofs.NumberedPairs.Numbers.{leaf_in-member, Member-from_leaf_in}
-- the list split at an id
pub use Rattle.art_rows.proofs.CallerLemmas.{leaf_in-split, number_after-split, without_number-split, with_pair-split}
pub use Rattle.art_tree.proofs.NumberedPairs.Numbers.{with_value-split}
-- a list without a pair, or with another key or value for it
pub use Rattle.art_rows.proofs.CallerLemmas.{length-without_number, AreDistinct-without_number, same_first, same_last, leaf_in-with_now, others-with_pair}
pub use Rattle.art_tree.proofs.NumberedPairs.Numbers.{AreDistinct-with_value, numbers-with_value}
-- the pairs that pass a test, if one is removed, and lists whose ends are both known
pub use Rattle.art_tree.proofs.NumberedPairs.Filtering.{AreDistinct-filter, filter-without, dropped_without, filter_every, two_ends, only_one}
-- the ends of the pairs within a bound, or with a prefix
pub use Rattle.art_tree.proofs.NumberedPairs.Bounds.{are_ends, no_pairs_between, number_within_has}

module _ {X : Type 0} (bytes : X → List ℕ) (S : List X) (q : List ℕ) (alone : (y : X) → Member y S → related (bytes y) q ≡ false) where
  -- if no item is related to q, none conflicts with it
  pub alone_no_conflict : conflict bytes S q ≡ false
  alone_no_conflict = false_from_ne_true _ (λ h. let r = conflict_found bytes S q h in false≢true (sym (alone r.0 r.1) ∙ r.2))

  -- nor does any item have the bytes q
  pub alone_absent : stores bytes S q ≡ false
  alone_absent = false_from_ne_true _ (λ h. let r = stores_found bytes S q h in false≢true (sym (alone r.0 r.1) ∙ related-same (bytes r.0) q r.2))

  -- nor does a look-up of q find an item
  pub alone_none : at bytes S q ≡ None
  alone_none = at_absent bytes S q (λ y m e. false≢true (sym (alone y m) ∙ related-same (bytes y) q e))

-- a key conflicts with the pairs if it conflicts with the numbered pairs
pub conflict_pairs : {K V : Type 0} (kb : K → Bytes) (ps : List (Numbered K V)) (q : Bytes) → conflict (pair_bytes kb) (pairs_of ps) q ≡ conflict (bytes kb) ps q
conflict_pairs kb ps q = list_any-map (λ p. p.1) (λ x. conflicts (kb x.0) q) ps

module _ {K V : Type 0} (kb : K → Bytes) (ps : List (Numbered K V)) (content : IsContent (bytes kb) ps) (distinct : AreDistinct ps) (q : Bytes) where
  -- no key is related to the key of a gap
  pub free_alone : (gap : Gap) → IsFree kb ps gap q → (y : Numbered K V) → Member y ps → related (bytes kb y) q ≡ false
  free_alone gap free y m = leaving_unrelated (keys_in kb ps) gap.nearest gap.depth q free.leaves (none_begins kb ps content distinct) y.0 (bytes kb y) (key_of_member kb ps y distinct m)
