-- A value that a walk lent, and that is written through `pair` afterwards.
use Rattle.std.proofs.Common.{◌≡◌, ℕ, Option, Some, option_map, List, [], ◌∷◌, ◌++◌, sym, ap, ◌∙◌, subst}
use Rattle.std.specs.Prelude.{MatchOption, ⊤}
use Rattle.art_tree.specs.Leaves.{Numbered, leaf_in, Lacks, with_value}
use Rattle.art_edits.proofs.Placed.Again.{with_with}
use Rattle.art_edits.proofs.Placed.Setting.{pair_written as pair_set}
use Rattle.art_walk.specs.Lent.{written_all, written_last, LentFirst, LentLast}
use Rattle.art_walk.proofs.Lending.{written_past, written_after}
use Rattle.art_walk.proofs.Steps.{some_inj}

module _ {K V : Type 0} where
  -- the list, once the pair lent last is written again
  again : (old new : List (Numbered K V)) (last : Option ℕ) (number : ℕ) (u w : V) → last ≡ Some number → new ≡ with_value old number u → written_last last new w ≡ with_value old number w
  again old new last number u w is h = ap (λ l. written_last l new w) is ∙ ap (λ ps. with_value ps number w) h ∙ with_with old number u w

  -- the key of the pair lent last is the one that `pair` returns
  same_key : (old new : List (Numbered K V)) (last : Option ℕ) (number : ℕ) (key k : K) (v u x : V) → last ≡ Some number → leaf_in old number ≡ Some (key, v) → new ≡ with_value old number u
      → MatchOption last ⊤ (λ id. leaf_in new id ≡ Some (k, x)) → key ≡ k
  same_key old new last number key k v u x is named written found =
      let there : leaf_in new number ≡ Some (k, x) = subst (λ l. MatchOption l ⊤ (λ id. leaf_in new id ≡ Some (k, x))) is found in
      let set : leaf_in (with_value old number u) number ≡ Some (key, u) = pair_set (λ k. []) old number u ∙ ap (option_map (λ k. (k, u))) (ap (option_map (λ (p : K × V). p.0)) named) in
      let both : Some (key, u) ≡ Some (k, x) = sym set ∙ ap (λ l. leaf_in l number) (sym written) ∙ there in
      ap (λ (p : K × V). p.0) (some_inj (key, u) (k, x) both)

  module _ (old new left after : List (Numbered K V)) (last : Option ℕ) (k : K) (v u x w : V) (now still : List (Numbered K V)) (found : MatchOption last ⊤ (λ id. leaf_in new id ≡ Some (k, x))) (written : now ≡ written_last last new w) (same : still ≡ after) where
    -- if a walk lent its first value, and w was written through `pair`, which returned the key k,
    -- it is as if w was written where `next` lent it
    pub pair_written : LentFirst old new left after last v u → (r : LentFirst old now left still last v w) × (r.key ≡ k)
    pair_written h =
        let is : now ≡ with_value old h.number w = written ∙ again old new last h.number u w h.is_last h.lent.written in (
          record {
            number = h.number;
            key = h.key;
            splits = h.splits ∙ ap (λ l. (h.number, (h.key, v)) ∷ l) (sym same);
            lent = record {
              named = h.lent.named;
              written = is;
              passed = subst (λ l. Lacks l h.number) (sym same) h.lent.passed;
              all_written = λ f e.
                  ap (λ l. written_all f l now) same ∙ ap (written_all f after) (is ∙ ap (with_value old h.number) (sym e)) ∙ sym (ap (λ l. written_all f l old) h.splits);
            };
            is_last = h.is_last;
          },
          same_key old new last h.number h.key k v u x h.is_last h.lent.named h.lent.written found,
        )

    -- the same for its last value
    pub pair_written_back : LentLast old new left after last v u → (r : LentLast old now left still last v w) × (r.key ≡ k)
    pair_written_back h =
        let is : now ≡ with_value old h.number w = written ∙ again old new last h.number u w h.is_last h.lent.written in (
          record {
            number = h.number;
            key = h.key;
            splits = h.splits ∙ ap (λ l. l ++ (h.number, (h.key, v)) ∷ []) (sym same);
            lent = record {
              named = h.lent.named;
              written = is;
              passed = subst (λ l. Lacks l h.number) (sym same) h.lent.passed;
              all_written = λ f e.
                  ap (λ l. written_all f l now) same ∙ ap (written_all f after) (is ∙ ap (with_value old h.number) (sym e))
                  ∙ written_past f after old h.number (f (h.key, v)) h.lent.passed
                  ∙ sym (ap (λ l. written_all f l old) h.splits ∙ written_after f after old (h.number, (h.key, v)));
            };
            is_last = h.is_last;
          },
          same_key old new last h.number h.key k v u x h.is_last h.lent.named h.lent.written found,
        )
