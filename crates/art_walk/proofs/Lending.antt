-- A pair that a walk has passed and returned by a mutable reference.
use Rattle.std.proofs.Common.{◌≡◌, ◌≢◌, ℕ, ◌-◌, suc, List, [], ◌∷◌, ◌++◌, length, Bool, true, false, cond, Option, Some, None, option_map, refl, sym, ap, ◌∙◌, subst, arith}
use Rattle.std.specs.Option.{is_none}
use Rattle.std.specs.Prelude.{is_some as has_value}
use Rattle.std.proofs.lemmas.Grind.{common_steps}
use Rattle.std.proofs.lemmas.Bool.{ne_eqb, eqb-true, eq-eqb}
use Rattle.blart_keys.proofs.Options.{mapped_some, is_some, some_of}
use Rattle.art_tree.specs.Leaves.{Numbered, leaf_in, Has, AreDistinct, Lacks, with_value, without_number}
use Rattle.art_tree.proofs.CallerLemmas.{Lacks-from_leaf_in, Lacks-parts}
use Rattle.art_walk.specs.declared.cursor.Cursor.{Cursor}
use Rattle.art_walk.specs.Cursor.{from_number, through_number, EndsFit, ends_left, leaves_left, FitsIn, PassesFirst, PassesLast}
use Rattle.art_walk.specs.Lent.{numbers, bare, ends_fit, lent_fits, walk_fits, count_fits, written_all, IsLent, LentFirst, LentLast, written_last, numbers_written}
use Rattle.art_walk.proofs.Changes.{left_with_passed, left_without}
use Rattle.art_walk.proofs.Steps.{some_inj}
use Rattle.art_walk.proofs.Passing.{put_back, length-put_back, Passed, passed_at, same_written, fewer_left}

-- ---- a clause about the value that was returned

-- a fact about the value holds for the value of the option
pub at_some : {T : Type 0} (P : T → Type 0) (v : T) → P v → (x : T) → Some v ≡ Some x → P x
at_some P v h x e = subst P (some_inj v x e) h

-- an option with a value is not none
pub never_none : {T : Type 0} (Q : Type 0) (v : T) → Some v ≡ None → Q
never_none Q v e = absurd cc

-- ---- two tests

both : (a b : Bool) → a ≡ true → b ≡ true → cond a b false ≡ true
both a b h k = ap (λ x. cond x b false) h ∙ k

left_of : (a b : Bool) → cond a b false ≡ true → a ≡ true
left_of true b h = refl
left_of false b h = h

right_of : (a b : Bool) → cond a b false ≡ true → b ≡ true
right_of true b h = h
right_of false b h = absurd (let g : false ≡ true = h in cc)

module _ {K V : Type 0} where
  -- ---- numbers alone

  pub bare_has : (ps : List (Numbered K V)) (i : ℕ) → has_value (leaf_in (bare (numbers ps)) i) ≡ has_value (leaf_in ps i)
  bare_has [] i = refl
  bare_has (p ∷ ps) i = grind (arith, common_steps, bare_has ps i)

  pub bare_none : (ps : List (Numbered K V)) (i : ℕ) → is_none (leaf_in (bare (numbers ps)) i) ≡ is_none (leaf_in ps i)
  bare_none [] i = refl
  bare_none (p ∷ ps) i = grind (arith, common_steps, bare_none ps i)

  pub bare_from : (ps : List (Numbered K V)) (i : ℕ) → from_number (bare (numbers ps)) i ≡ bare (numbers (from_number ps i))
  bare_from [] i = refl
  bare_from (p ∷ ps) i = grind (arith, common_steps, bare_from ps i)

  pub bare_through : (ps : List (Numbered K V)) (i : ℕ) → through_number (bare (numbers ps)) i ≡ bare (numbers (through_number ps i))
  bare_through [] i = refl
  bare_through (p ∷ ps) i = grind (arith, common_steps, bare_through ps i)

  ends_is : (ends : Option (ℕ × ℕ)) (ps : List (Numbered K V)) → EndsFit ends ps → ends_fit ends (numbers ps) ≡ true
  ends_is None ps h = refl
  ends_is (Some e) ps h = ap (λ l. has_value (leaf_in l e.1)) (bare_from ps e.0) ∙ bare_has (from_number ps e.0) e.1 ∙ h

  ends_was : (ends : Option (ℕ × ℕ)) (ps : List (Numbered K V)) → ends_fit ends (numbers ps) ≡ true → EndsFit ends ps
  ends_was None ps h = tt
  ends_was (Some e) ps h = sym (ap (λ l. has_value (leaf_in l e.1)) (bare_from ps e.0) ∙ bare_has (from_number ps e.0) e.1) ∙ h

  bare_left : (c : Cursor) (ps : List (Numbered K V)) → leaves_left c (bare (numbers ps)) ≡ bare (numbers (leaves_left c ps))
  bare_left c ps = go c.ends
    where
      go : (ends : Option (ℕ × ℕ)) → ends_left ends (bare (numbers ps)) ≡ bare (numbers (ends_left ends ps))
      go None = refl
      go (Some e) = ap (λ l. through_number l e.1) (bare_from ps e.0) ∙ bare_through (from_number ps e.0) e.1

  -- ---- the test of a walk

  -- the pair returned last is in the list, and is not among those that are left
  abbrev pub LentIn : Option ℕ → List (Numbered K V) → List (Numbered K V) → Type 0
  LentIn None ps left = Unit {0}
  LentIn (Some i) ps left = Has ps i × Lacks left i

  none_is : (left : List (Numbered K V)) (i : ℕ) → Lacks left i → is_none (leaf_in left i) ≡ true
  none_is [] i l = refl
  none_is (p ∷ left) i l = rw (ne_eqb p.0 i l.0) (none_is left i l.1)

  none_was : (left : List (Numbered K V)) (i : ℕ) → is_none (leaf_in left i) ≡ true → Lacks left i
  none_was left i h = Lacks-from_leaf_in left i (go (leaf_in left i) h)
    where
      go : (o : Option (K × V)) → is_none o ≡ true → o ≡ None
      go None h = refl
      go (Some x) h = absurd (let g : false ≡ true = h in cc)

  lent_is : (lent : Option ℕ) (c : Cursor) (ps : List (Numbered K V)) → LentIn lent ps (leaves_left c ps) → lent_fits lent (bare (numbers ps)) (leaves_left c (bare (numbers ps))) ≡ true
  lent_is None c ps h = refl
  lent_is (Some i) c ps h = both _ _ (bare_has ps i ∙ h.0) (ap (λ l. is_none (leaf_in l i)) (bare_left c ps) ∙ bare_none (leaves_left c ps) i ∙ none_is (leaves_left c ps) i h.1)

  lent_was : (lent : Option ℕ) (c : Cursor) (ps : List (Numbered K V)) → lent_fits lent (bare (numbers ps)) (leaves_left c (bare (numbers ps))) ≡ true → LentIn lent ps (leaves_left c ps)
  lent_was None c ps h = tt
  lent_was (Some i) c ps h = (
    sym (bare_has ps i) ∙ left_of _ _ h,
    none_was (leaves_left c ps) i (sym (ap (λ l. is_none (leaf_in l i)) (bare_left c ps) ∙ bare_none (leaves_left c ps) i) ∙ right_of _ _ h),
  )

  -- a walk that fits passes the test
  pub to_test : (c : Cursor) (lent : Option ℕ) (ps : List (Numbered K V)) → FitsIn c ps → LentIn lent ps (leaves_left c ps) → walk_fits c lent (numbers ps) ≡ true
  to_test c lent ps f l = both _ _ (ends_is c.ends ps f) (lent_is lent c ps l)

  -- a walk that passes the test fits
  pub from_test : (c : Cursor) (lent : Option ℕ) (ps : List (Numbered K V)) → walk_fits c lent (numbers ps) ≡ true → FitsIn c ps
  from_test c lent ps h = ends_was c.ends ps (left_of _ _ h)

  -- and so does the pair returned last
  pub lent_from_test : (c : Cursor) (lent : Option ℕ) (ps : List (Numbered K V)) → walk_fits c lent (numbers ps) ≡ true → LentIn lent ps (leaves_left c ps)
  lent_from_test c lent ps h = lent_was lent c ps (right_of _ _ h)

  -- ---- values written one after another

  with_with : (ps : List (Numbered K V)) (i j : ℕ) (v w : V) → i ≢ j → with_value (with_value ps i v) j w ≡ with_value (with_value ps j w) i v
  with_with [] i j v w ne = refl
  with_with (p ∷ ps) i j v w ne = grind (arith, common_steps, with_with ps i j v w ne)

  -- a value is written before the others, or after them
  pub written_past : (f : K × V → V) (left ps : List (Numbered K V)) (i : ℕ) (w : V) → Lacks left i → written_all f left (with_value ps i w) ≡ with_value (written_all f left ps) i w
  written_past f [] ps i w l = refl
  written_past f (p ∷ left) ps i w l =
      ap (written_all f left) (with_with ps i p.0 w (f p.1) (λ e. l.0 (sym e))) ∙ written_past f left (with_value ps p.0 (f p.1)) i w l.1

  -- the last pair that is left is written last
  pub written_after : (f : K × V → V) (left ps : List (Numbered K V)) (p : Numbered K V) → written_all f (left ++ p ∷ []) ps ≡ with_value (written_all f left ps) p.0 (f p.1)
  written_after f [] ps p = refl
  written_after f (q ∷ left) ps p = written_after f left (with_value ps q.0 (f q.1)) p

  -- the value that is written last may as well be written first
  written_put_back : (is_front : Bool) (f : K × V → V) (left ps : List (Numbered K V)) (p : Numbered K V) → Lacks left p.0 → written_all f (put_back is_front p left) ps ≡ written_all f left (with_value ps p.0 (f p.1))
  written_put_back true f left ps p lacks = refl
  written_put_back false f left ps p lacks = written_after f left ps p ∙ sym (written_past f left ps p.0 (f p.1) lacks)

  -- ---- a cursor that is moved on

  fewer_lent : (was : Option ℕ) (ps left after : List (Numbered K V)) → ((i : ℕ) → Lacks left i → Lacks after i) → LentIn was ps left → LentIn was ps after
  fewer_lent None ps left after h l = tt
  fewer_lent (Some i) ps left after h l = (l.0, h i l.1)

  -- the first pair is passed, or the last
  abbrev pub Passes : Bool → List (Numbered K V) → Option ℕ → List (Numbered K V) → Type 0
  Passes true old o new = PassesFirst old o new
  Passes false old o new = PassesLast old o new

  still_lacks : (is_front : Bool) (old new : List (Numbered K V)) (o : Option ℕ) → Passes is_front old o new → (i : ℕ) → Lacks old i → Lacks new i
  still_lacks true old new None e i l = subst (λ (l : List (Numbered K V)). Lacks l i) (e.0 ∙ sym e.1) l
  still_lacks false old new None e i l = subst (λ (l : List (Numbered K V)). Lacks l i) (e.0 ∙ sym e.1) l
  still_lacks true old new (Some id) e i l = (subst (λ (l : List (Numbered K V)). Lacks l i) e.1 l).1
  still_lacks false old new (Some id) e i l = (Lacks-parts new [] (id, e.0) i (subst (λ (l : List (Numbered K V)). Lacks l i) e.1 l)).0

  -- past a pair, the cursor still fits
  pub moved : (is_front : Bool) (ps : List (Numbered K V)) (old new : Cursor) (was : Option ℕ) → walk_fits old was (numbers ps) ≡ true → FitsIn new ps → (o : Option ℕ) → Passes is_front (leaves_left old ps) o (leaves_left new ps) → walk_fits new was (numbers ps) ≡ true
  moved is_front ps old new was test fits o passes =
      to_test new was ps fits (fewer_lent was ps (leaves_left old ps) (leaves_left new ps) (still_lacks is_front (leaves_left old ps) (leaves_left new ps) o passes) (lent_from_test old was ps test))

  -- ---- the pair that is passed

  -- and it fits with this pair as the one returned last
  pub fits_now : (is_front : Bool) (ps : List (Numbered K V)) → AreDistinct ps → (old new : Cursor) (was : Option ℕ) → walk_fits old was (numbers ps) ≡ true → FitsIn new ps → (id : ℕ) → Has ps id → (x : K × V) × (leaves_left old ps ≡ put_back is_front (id, x) (leaves_left new ps)) → walk_fits new (Some id) (numbers ps) ≡ true
  fits_now is_front ps distinct old new was test fits id there passed =
      let n = some_of (leaf_in ps id) there in
      to_test new (Some id) ps fits (there, (passed_at is_front ps old new distinct (from_test old was ps test) fits id n.0 n.1 passed).lacks)

  -- ---- the pair that is returned

  module _ (is_front : Bool) (ps : List (Numbered K V)) (distinct : AreDistinct ps) (old new : Cursor) (was : Option ℕ) (test : walk_fits old was (numbers ps) ≡ true) (fits : FitsIn new ps) (id : ℕ) (v : V) (value : option_map (λ (p : K × V). p.1) (leaf_in ps id) ≡ Some v) (passed : (x : K × V) × (leaves_left old ps ≡ put_back is_front (id, x) (leaves_left new ps))) where
    abbrev lent_key : K
    lent_key = (mapped_some (λ (p : K × V). p.1) (leaf_in ps id) v value).0.0

    passed_it : Passed is_front ps old new id (lent_key, v)
    passed_it =
        let m = mapped_some (λ (p : K × V). p.1) (leaf_in ps id) v value in
        passed_at is_front ps old new distinct (from_test old was ps test) fits id (lent_key, v) (m.1 ∙ ap (λ u. Some (m.0.0, u)) m.2) passed

    -- the pairs that are left once a value is written to it
    abbrev after : V → List (Numbered K V)
    after w = leaves_left new (with_value ps id w)

    pub fits_with : (w : V) → walk_fits new (Some id) (numbers (with_value ps id w)) ≡ true
    fits_with w = ap (walk_fits new (Some id)) (numbers_written (Some id) ps w) ∙ to_test new (Some id) ps fits (is_some (leaf_in ps id) (lent_key, v) passed_it.named, passed_it.lacks)

    -- its key, its place among the pairs that were left, and what is true once it is written
    lent_with : (w : V) → (key : K) × (leaves_left old ps ≡ put_back is_front (id, (key, v)) (after w)) × IsLent ps (with_value ps id w) (leaves_left old ps) (after w) id key v w
    lent_with w =
        let same = (same_written passed_it w).same in
        let splits : leaves_left old ps ≡ put_back is_front (id, (lent_key, v)) (after w) = passed_it.splits ∙ ap (put_back is_front (id, (lent_key, v))) (sym same) in
        let lacks = subst (λ (l : List (Numbered K V)). Lacks l id) (sym same) passed_it.lacks in (
          lent_key,
          splits,
          record {
            named = passed_it.named;
            written = refl;
            passed = lacks;
            all_written = λ f e.
                ap (λ u. written_all f (after w) (with_value ps id u)) (sym e)
                ∙ sym (ap (λ l. written_all f l ps) splits ∙ written_put_back is_front f (after w) ps (id, (lent_key, v)) lacks);
          },
        )

    pub lent_count : (w : V) (n : ℕ) → n ≡ length (leaves_left old ps) → n - 1 ≡ length (after w)
    lent_count w n e = let h : suc (length (after w)) ≡ length (leaves_left old ps) = fewer_left passed_it (same_written passed_it w) in omega arith

  module _ (ps : List (Numbered K V)) (distinct : AreDistinct ps) (old new : Cursor) (was : Option ℕ) (test : walk_fits old was (numbers ps) ≡ true) (fits : FitsIn new ps) (id : ℕ) (v : V) (value : option_map (λ (p : K × V). p.1) (leaf_in ps id) ≡ Some v) where
    -- it is the first of the pairs that were left
    pub is_lent_first : (x : K × V) × (leaves_left old ps ≡ (id, x) ∷ leaves_left new ps) → (w : V) → LentFirst ps (with_value ps id w) (leaves_left old ps) (leaves_left new (with_value ps id w)) (Some id) v w
    is_lent_first passed w =
        let l = lent_with true ps distinct old new was test fits id v value passed w in
        record { number = id; key = l.0; splits = l.1; lent = l.2; is_last = refl }

    -- or it is the last of them
    pub is_lent_last : (x : K × V) × (leaves_left old ps ≡ leaves_left new ps ++ (id, x) ∷ []) → (w : V) → LentLast ps (with_value ps id w) (leaves_left old ps) (leaves_left new (with_value ps id w)) (Some id) v w
    is_lent_last passed w =
        let l = lent_with false ps distinct old new was test fits id v value passed w in
        record { number = id; key = l.0; splits = l.1; lent = l.2; is_last = refl }

  -- ---- the pair returned last, again

  -- it is in the list
  pub has_lent : (c : Cursor) (lent : Option ℕ) (ps : List (Numbered K V)) → walk_fits c lent (numbers ps) ≡ true → (id : ℕ) → lent ≡ Some id → Has ps id
  has_lent c lent ps test id e = (lent_from_test c (Some id) ps (ap (λ (o : Option ℕ). walk_fits c o (numbers ps)) (sym e) ∙ test)).0

  module _ (ps : List (Numbered K V)) (distinct : AreDistinct ps) (c : Cursor) (lent : Option ℕ) (test : walk_fits c lent (numbers ps) ≡ true) where
    -- a written value does not change the pairs that are left
    pub same_left : (w : V) → leaves_left c (written_last lent ps w) ≡ leaves_left c ps
    same_left w = go lent (lent_from_test c lent ps test)
      where
        go : (o : Option ℕ) → LentIn o ps (leaves_left c ps) → leaves_left c (written_last o ps w) ≡ leaves_left c ps
        go None h = refl
        go (Some i) h = left_with_passed c ps i w distinct (from_test c lent ps test) h.1

  -- ---- the pair returned last is removed, or kept

  pub kept_fits : (c : Cursor) (lent : Option ℕ) (ps : List (Numbered K V)) → walk_fits c lent (numbers ps) ≡ true → walk_fits c None (numbers ps) ≡ true
  kept_fits c lent ps test = to_test c None ps (from_test c lent ps test) tt

  module _ (ps qs : List (Numbered K V)) (distinct : AreDistinct ps) (c : Cursor) (lent : Option ℕ) (test : walk_fits c lent (numbers ps) ≡ true) (id : ℕ) (is : lent ≡ Some id) (rest : qs ≡ without_number ps id) where
    lent_lacks : Lacks (leaves_left c ps) id
    lent_lacks = (lent_from_test c (Some id) ps (ap (λ (o : Option ℕ). walk_fits c o (numbers ps)) (sym is) ∙ test)).1

    pub taken_fits : walk_fits c None (numbers qs) ≡ true
    taken_fits = to_test c None qs (subst (λ (l : List (Numbered K V)). FitsIn c l) (sym rest) (left_without c ps id distinct (from_test c lent ps test) lent_lacks).0) tt

    pub taken_left : leaves_left c qs ≡ leaves_left c ps
    taken_left = ap (leaves_left c) rest ∙ (left_without c ps id distinct (from_test c lent ps test) lent_lacks).1

  -- ---- a walk that counts

  lengths : (ps : List (Numbered K V)) → length (bare (numbers ps)) ≡ length ps
  lengths [] = refl
  lengths (p ∷ ps) = ap suc (lengths ps)

  left_lengths : (c : Cursor) (ps : List (Numbered K V)) → length (leaves_left c (bare (numbers ps))) ≡ length (leaves_left c ps)
  left_lengths c ps = ap length (bare_left c ps) ∙ lengths (leaves_left c ps)

  module _ (c : Cursor) (lent : Option ℕ) (left : ℕ) (ps : List (Numbered K V)) where
    pub to_count : walk_fits c lent (numbers ps) ≡ true → left ≡ length (leaves_left c ps) → count_fits c lent left (numbers ps) ≡ true
    to_count f n = both _ _ f (eq-eqb left (length (leaves_left c (bare (numbers ps)))) (n ∙ sym (left_lengths c ps)))

    pub count_test : count_fits c lent left (numbers ps) ≡ true → walk_fits c lent (numbers ps) ≡ true
    count_test h = left_of _ _ h

    pub count_is : count_fits c lent left (numbers ps) ≡ true → left ≡ length (leaves_left c ps)
    count_is h = eqb-true left (length (leaves_left c (bare (numbers ps)))) (right_of _ _ h) ∙ left_lengths c ps

  -- one pair less is left
  pub fewer_after : (is_front : Bool) (old new : Cursor) (ps : List (Numbered K V)) (id left : ℕ) → left ≡ length (leaves_left old ps) → (x : K × V) × (leaves_left old ps ≡ put_back is_front (id, x) (leaves_left new ps)) → left ≡ suc (length (leaves_left new ps))
  fewer_after is_front old new ps id left count e = count ∙ ap length e.1 ∙ length-put_back is_front (id, e.0) (leaves_left new ps)
