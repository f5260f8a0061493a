-- A pair that a cursor has passed, and what the cursor has left once that pair is written or
-- removed.
use Rattle.std.proofs.Common.{◌≡◌, ℕ, suc, ◌+◌, List, [], ◌∷◌, ◌++◌, length, length-append, reverse, Bool, true, false, Option, Some, None, inl, refl, sym, ap, ◌∙◌, subst, arith}
use Rattle.std.proofs.lemmas.Grind.{common_steps}
use Rattle.std.proofs.lemmas.List.{reverse-append}
use Rattle.blart_keys.proofs.Options.{is_some}
use Rattle.blart_keys.proofs.RankLemmas.{Member, Member-append_left, Member-append_right}
use Rattle.art_tree.specs.Leaves.{Numbered, leaf_in, Has, AreDistinct, Lacks, with_value, without_number}
use Rattle.art_tree.proofs.CallerLemmas.{leaf_in-member, distinct_parts, AreDistinct-with_value, AreDistinct-without_number}
use Rattle.art_tree.proofs.Spans.{span_cut}
use Rattle.art_walk.specs.declared.cursor.Cursor.{Cursor}
use Rattle.art_walk.specs.Cursor.{span_of, ends_left, EndsFit, leaves_left, FitsIn}
use Rattle.art_walk.proofs.Steps.{some_inj}
use Rattle.art_walk.proofs.Changes.{left_distinct, left_with_value, left_with_passed, left_without}

module _ {K V : Type 0} where
  -- ---- the pairs that are left

  ends_member : (ends : Option (ℕ × ℕ)) (ps : List (Numbered K V)) (y : Numbered K V) → EndsFit ends ps → Member y (ends_left ends ps) → Member y ps
  ends_member None ps y f m = absurd m
  ends_member (Some e) ps y f m =
      let c = span_cut ps e.0 e.1 f in
      subst (Member y) (sym c.is) (Member-append_right y c.before (span_of ps e.0 e.1 ++ c.after) (Member-append_left y (span_of ps e.0 e.1) c.after m))

  -- the number of a pair that is left has that pair
  left_names : (c : Cursor) (ps : List (Numbered K V)) (id : ℕ) (x y : K × V) → AreDistinct ps → FitsIn c ps → Member (id, x) (leaves_left c ps) → leaf_in ps id ≡ Some y → x ≡ y
  left_names c ps id x y d f m e = some_inj x y (sym (leaf_in-member ps id x d (ends_member c.ends ps (id, x) f m)) ∙ e)

  -- ---- the side at which a walk goes on

  -- the pairs in the order of a walk from the front, or from the back
  abbrev pub in_turn : Bool → List (Numbered K V) → List (Numbered K V)
  in_turn true left = left
  in_turn false left = reverse left

  -- the pairs with one more, which is the first or the last of them
  abbrev pub put_back : Bool → Numbered K V → List (Numbered K V) → List (Numbered K V)
  put_back true p left = p ∷ left
  put_back false p left = left ++ p ∷ []

  in_turn-put_back : (is_front : Bool) (p : Numbered K V) (left : List (Numbered K V)) → in_turn is_front (put_back is_front p left) ≡ p ∷ in_turn is_front left
  in_turn-put_back true p left = refl
  in_turn-put_back false p left = reverse-append left (p ∷ [])

  pub length-put_back : (is_front : Bool) (p : Numbered K V) (left : List (Numbered K V)) → length (put_back is_front p left) ≡ suc (length left)
  length-put_back true p left = refl
  length-put_back false p left = let h : length (left ++ p ∷ []) ≡ length left + 1 = length-append left (p ∷ []) in omega arith

  Member-put_back : (is_front : Bool) (p : Numbered K V) (left : List (Numbered K V)) → Member p (put_back is_front p left)
  Member-put_back true p left = inl refl
  Member-put_back false p left = Member-append_right p left (p ∷ []) (inl refl)

  distinct-put_back : (is_front : Bool) (p : Numbered K V) (left : List (Numbered K V)) → AreDistinct (put_back is_front p left) → Lacks left p.0
  distinct-put_back true p left d = d.0
  distinct-put_back false p left d = (distinct_parts left [] p d).0

  -- ---- a step

  -- a step from the front, or from the back, passed this pair, which is no longer left
  pub record Passed (is_front : Bool) (ps : List (Numbered K V)) (old new : Cursor) (id : ℕ) (y : K × V) : Type 0 where
    pub distinct : AreDistinct ps
    pub fits : FitsIn new ps
    pub named : leaf_in ps id ≡ Some y
    pub lacks : Lacks (leaves_left new ps) id
    pub splits : leaves_left old ps ≡ put_back is_front (id, y) (leaves_left new ps)
    pub turned : in_turn is_front (leaves_left old ps) ≡ (id, y) ∷ in_turn is_front (leaves_left new ps)
    pub fewer : suc (length (leaves_left new ps)) ≡ length (leaves_left old ps)

  -- such a record follows from what a step ensures
  pub passed_at : (is_front : Bool) (ps : List (Numbered K V)) (old new : Cursor) → AreDistinct ps → FitsIn old ps → FitsIn new ps → (id : ℕ) (y : K × V) → leaf_in ps id ≡ Some y → (x : K × V) × (leaves_left old ps ≡ put_back is_front (id, x) (leaves_left new ps)) → Passed is_front ps old new id y
  passed_at is_front ps old new distinct before fits id y named passed =
      let left = leaves_left new ps in
      let there = subst (Member (id, passed.0)) (sym passed.1) (Member-put_back is_front (id, passed.0) left) in
      let splits : leaves_left old ps ≡ put_back is_front (id, y) left = passed.1 ∙ ap (λ x. put_back is_front (id, x) left) (left_names old ps id passed.0 y distinct before there named) in
      record {
        distinct = distinct;
        fits = fits;
        named = named;
        lacks = distinct-put_back is_front (id, y) left (subst AreDistinct splits (left_distinct old ps distinct before));
        splits = splits;
        turned = ap (in_turn is_front) splits ∙ in_turn-put_back is_front (id, y) left;
        fewer = sym (ap length splits ∙ length-put_back is_front (id, y) left);
      }

  -- ---- the pair that was passed is written or removed

  -- the cursor has the same pairs left in another list
  pub record SameLeft (ps : List (Numbered K V)) (c : Cursor) (qs : List (Numbered K V)) : Type 0 where
    pub distinct : AreDistinct qs
    pub fits : FitsIn c qs
    pub same : leaves_left c qs ≡ leaves_left c ps

  without_with : (ps : List (Numbered K V)) (i : ℕ) (w : V) → without_number (with_value ps i w) i ≡ without_number ps i
  without_with [] i w = refl
  without_with (p ∷ ps) i w = grind (arith, common_steps, without_with ps i w)

  named_with : (ps : List (Numbered K V)) (i : ℕ) (x : K × V) (w : V) → leaf_in ps i ≡ Some x → leaf_in (with_value ps i w) i ≡ Some (x.0, w)
  named_with [] i x w h = cc
  named_with (p ∷ ps) i x w h = grind (arith, common_steps, named_with ps i x w)

  module _ {is_front : Bool} {ps : List (Numbered K V)} {old new : Cursor} {id : ℕ} {y : K × V} (p : Passed is_front ps old new id y) (w : V) where
    pub same_written : SameLeft ps new (with_value ps id w)
    same_written = record {
      distinct = AreDistinct-with_value ps id w p.distinct;
      fits = (left_with_value new ps id w p.distinct p.fits).0;
      same = left_with_passed new ps id w p.distinct p.fits p.lacks;
    }

    -- the pair is still there after its value is written
    pub named_written : leaf_in (with_value ps id w) id ≡ Some (y.0, w)
    named_written = named_with ps id y w p.named

    pub has_written : Has (with_value ps id w) id
    has_written = is_some (leaf_in (with_value ps id w) id) (y.0, w) named_written

    module _ (rs : List (Numbered K V)) (gone : rs ≡ without_number (with_value ps id w) id) where
      -- it is removed as if its value had not been written
      pub is_removed : rs ≡ without_number ps id
      is_removed = gone ∙ without_with ps id w

      pub same_removed : SameLeft ps new rs
      same_removed =
          let s = left_without new ps id p.distinct p.fits p.lacks in
          record {
            distinct = subst AreDistinct (sym is_removed) (AreDistinct-without_number ps id p.distinct);
            fits = subst (λ (l : List (Numbered K V)). FitsIn new l) (sym is_removed) s.0;
            same = ap (λ l. leaves_left new l) is_removed ∙ s.1;
          }

  -- one pair less is left than before the step
  pub fewer_left : {is_front : Bool} {ps qs : List (Numbered K V)} {old new : Cursor} {id : ℕ} {y : K × V} → Passed is_front ps old new id y → SameLeft ps new qs → suc (length (leaves_left new qs)) ≡ length (leaves_left old ps)
  fewer_left p s = ap suc (ap length s.same) ∙ p.fewer
