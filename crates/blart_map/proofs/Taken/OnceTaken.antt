-- Pairs taken one after the other, and all at once.
use Rattle.std.proofs.Common.{◌≡◌, ℕ, List, [], ◌∷◌, filter, Bool, true, false, not, ◌&&◌, cond, inl, inr, Option, Some, refl, sym, ap, ◌∙◌, subst, eq-eqb}
use Rattle.std.proofs.lemmas.Bool.{ne_eqb}
use Rattle.std.proofs.lemmas.Bool.Decides.{eqb_tells}
use Rattle.art_tree.specs.Leaves.{Numbered, leaf_in, AreDistinct, Lacks, with_value, without_number}
use Rattle.art_walk.specs.declared.cursor.Cursor.{Cursor}
use Rattle.art_walk.specs.Cursor.{leaves_left}
use Rattle.art_walk.specs.Lent.{LentFirst}
use Rattle.blart_map.specs.Content.{pairs}
use Rattle.blart_map.specs.OnceTaken.{taken_all, once_taken, still_to_take}
use Rattle.blart_map.specs.TakeWalk.{take_left}
use Rattle.blart_map.specs.declared.walks.take_walk.TakeWalk.{TakeWalk}
use Rattle.blart_keys.specs.declared.AsBytes.{Ghosts}
use Rattle.std.specs.Prelude.{MatchOption, ⊤}
use Rattle.art_tree.specs.Pairs.{pairs_of}
use Rattle.art_edits.proofs.Numbers.{lacks_filter}

module _ {K V : Type 0} (test : K × V → Bool) where
  -- ---- all at once

  -- a first pair with another number is kept
  after_front : (left ps : List (Numbered K V)) (p : Numbered K V) → Lacks left p.0 → taken_all test left (p ∷ ps) ≡ p ∷ taken_all test left ps
  after_front [] ps p l = refl
  after_front (q ∷ left) ps p l =
      elim (test q.1) as (λ b. taken_all test left (cond b (without_number (p ∷ ps) q.0) (p ∷ ps)) ≡ p ∷ taken_all test left (cond b (without_number ps q.0) ps)) [
        | true ↦ rw (ne_eqb p.0 q.0 (λ e. l.0 (sym e))) (after_front left (without_number ps q.0) p l.1)
        | false ↦ after_front left ps p l.1
      ]

  -- without the number of the first pair, the others are left
  front_taken : (p : Numbered K V) (ps : List (Numbered K V)) → without_number (p ∷ ps) p.0 ≡ ps
  front_taken p ps = rw (eq-eqb p.0 p.0 refl) refl

  module _ (within : K × V → Bool) where
    abbrev kept : K × V → Bool
    kept x = not (within x && test x)

    some_taken : (ps : List (Numbered K V)) → AreDistinct ps → pairs_of (taken_all test (filter (λ p. within p.1) ps) ps) ≡ filter kept (pairs_of ps)
    some_taken [] d = refl
    some_taken (p ∷ ps) d =
        let rest = filter (λ (p : Numbered K V). within p.1) ps in
        let lacks = lacks_filter (λ p. within p.1) ps p.0 d.0 in
        elim (within p.1) as (λ b. pairs_of (taken_all test (cond b (p ∷ rest) rest) (p ∷ ps)) ≡ cond (not (b && test p.1)) (p.1 ∷ filter kept (pairs_of ps)) (filter kept (pairs_of ps))) [
          | true ↦ elim (test p.1) as (λ b. pairs_of (taken_all test rest (cond b (without_number (p ∷ ps) p.0) (p ∷ ps))) ≡ cond (not b) (p.1 ∷ filter kept (pairs_of ps)) (filter kept (pairs_of ps))) [
            | true ↦ ap (λ l. pairs_of (taken_all test rest l)) (front_taken p ps) ∙ some_taken ps d.1
            | false ↦ ap pairs_of (after_front rest ps p lacks) ∙ ap (λ l. p.1 ∷ l) (some_taken ps d.1)
          ]
          | false ↦ ap pairs_of (after_front rest ps p lacks) ∙ ap (λ l. p.1 ∷ l) (some_taken ps d.1)
        ]

  -- a walk opened over the pairs that pass a test: the pairs of the map once all are taken
  pub opened_taken : (c c' : Cursor) (ps qs rs : List (Numbered K V)) → ps ≡ qs → rs ≡ qs → AreDistinct qs → c' ≡ c → (within : K × V → Bool) → leaves_left c ps ≡ filter (λ p. within p.1) ps
      → pairs (taken_all test (leaves_left c' rs) rs) ≡ filter (λ x. not (within x && test x)) (pairs qs)
  unfolding pairs
  opened_taken c c' ps qs rs view same d cs within left =
      let e : leaves_left c' rs ≡ filter (λ p. within p.1) rs = ap (λ k. leaves_left k rs) cs ∙ subst (λ (l : List (Numbered K V)). leaves_left c l ≡ filter (λ p. within p.1) l) (view ∙ sym same) left in
      ap (λ l. pairs_of (taken_all test l rs)) e ∙ some_taken within rs (subst AreDistinct (sym same) d) ∙ ap (λ l. filter (λ x. not (within x && test x)) (pairs_of l)) same

  module _ (within : K × V → Bool) where
    -- the pairs within that pass the test
    some_left : (ps : List (Numbered K V)) → filter test (pairs_of (filter (λ p. within p.1) ps)) ≡ filter (λ x. within x && test x) (pairs_of ps)
    some_left [] = refl
    some_left (p ∷ ps) =
        let rest = filter (λ (p : Numbered K V). within p.1) ps in
        let others = filter (λ x. within x && test x) (pairs_of ps) in
        elim (within p.1) as (λ b. filter test (pairs_of (cond b (p ∷ rest) rest)) ≡ cond (b && test p.1) (p.1 ∷ others) others) [
          | true ↦ ap (λ l. cond (test p.1) (p.1 ∷ l) l) (some_left ps)
          | false ↦ some_left ps
        ]

  -- the same walk: the pairs that it has still to take
  pub opened_left : (c c' : Cursor) (ps qs rs : List (Numbered K V)) → ps ≡ qs → rs ≡ qs → c' ≡ c → (within : K × V → Bool) → leaves_left c ps ≡ filter (λ p. within p.1) ps
      → filter test (pairs (leaves_left c' rs)) ≡ filter (λ x. within x && test x) (pairs qs)
  unfolding pairs
  opened_left c c' ps qs rs view same cs within left =
      let e : leaves_left c' rs ≡ filter (λ p. within p.1) rs = ap (λ k. leaves_left k rs) cs ∙ subst (λ (l : List (Numbered K V)). leaves_left c l ≡ filter (λ p. within p.1) l) (view ∙ sym same) left in
      ap (λ l. filter test (pairs_of l)) e ∙ some_left within rs ∙ ap (λ l. filter (λ x. within x && test x) (pairs_of l)) same

  -- ---- one after the other

  pub same_value : (ps : List (Numbered K V)) (i : ℕ) (k : K) (v : V) → leaf_in ps i ≡ Some (k, v) → with_value ps i v ≡ ps
  same_value [] i k v h = refl
  same_value (p ∷ ps) i k v h = elim (eqb_tells p.0 i) [
    | inl t ↦ let o : leaf_in (p ∷ ps) i ≡ Some p.1 = rw t.0 refl in let e : Some p.1 ≡ Some (k, v) = sym o ∙ h in let x : p.1 ≡ (k, v) = cc in rw t.0 (ap (λ (x : K × V). (p.0, (p.1.0, x.1)) ∷ ps) (sym x))
    | inr f ↦ let o : leaf_in (p ∷ ps) i ≡ leaf_in ps i = rw f.0 refl in rw f.0 (ap (λ l. p ∷ l) (same_value ps i k v (sym o ∙ h)))
  ]

  module _ (old new left after : List (Numbered K V)) (last : Option ℕ) (v : V) (lent : LentFirst old new left after last v v) where
    same_list : new ≡ old
    same_list = lent.lent.written ∙ same_value old lent.number lent.key v lent.lent.named

    -- if the lent pair was kept with its value, and does not pass the test, the end is the same
    pub kept_first : test (lent.key, v) ≡ false → taken_all test after new ≡ taken_all test left old
    kept_first t =
        ap (taken_all test after) same_list ∙ sym (ap (λ l. taken_all test l old) lent.splits ∙ ap (λ b. taken_all test after (cond b (without_number old lent.number) old)) t)

    -- so it is if the lent pair was taken, and passes the test
    pub taken_first : test (lent.key, v) ≡ true → taken_all test after (without_number new lent.number) ≡ taken_all test left old
    taken_first t =
        ap (λ l. taken_all test after (without_number l lent.number)) same_list ∙ sym (ap (λ l. taken_all test l old) lent.splits ∙ ap (λ b. taken_all test after (cond b (without_number old lent.number) old)) t)

    -- the number of the lent pair names it
    pub lent_pair : leaf_in new lent.number ≡ Some (lent.key, v)
    lent_pair = ap (λ l. leaf_in l lent.number) same_list ∙ lent.lent.named

    -- the pairs still to be taken are those after it, and it too if it passes the test
    pub kept_left : test (lent.key, v) ≡ false → filter test (pairs left) ≡ filter test (pairs after)
    unfolding pairs
    kept_left t = ap (λ l. filter test (pairs_of l)) lent.splits ∙ ap (λ b. cond b ((lent.key, v) ∷ filter test (pairs_of after)) (filter test (pairs_of after))) t

    pub taken_left : test (lent.key, v) ≡ true → filter test (pairs left) ≡ (lent.key, v) ∷ filter test (pairs after)
    unfolding pairs
    taken_left t = ap (λ l. filter test (pairs_of l)) lent.splits ∙ ap (λ b. cond b ((lent.key, v) ∷ filter test (pairs_of after)) (filter test (pairs_of after))) t

  -- ---- nothing is left

  -- if no pair is left, none passes
  pub none_to_take : (left : List (Numbered K V)) → left ≡ [] → filter test (pairs left) ≡ []
  unfolding pairs
  none_to_take left none = ap (λ l. filter test (pairs_of l)) none

  cons_nil : (b : Bool) (x : K × V) (xs : List (K × V)) → cond b (x ∷ xs) xs ≡ [] → (b ≡ false) × (xs ≡ [])
  cons_nil true x xs h = cc
  cons_nil false x xs h = (refl, h)

  -- if no pair passes, none is taken
  pub none_taken : (left ps : List (Numbered K V)) → filter test (pairs left) ≡ [] → taken_all test left ps ≡ ps
  unfolding pairs
  none_taken [] ps h = refl
  none_taken (p ∷ left) ps h =
      let n = cons_nil (test p.1) p.1 (filter test (pairs_of left)) h in
      ap (λ b. taken_all test left (cond b (without_number ps p.0) ps)) n.0 ∙ none_taken left ps n.1

-- ---- a walk s that lent its first pair, with its value unchanged, and is then n, and then k

module _ {K V : Type 0} {p : ℕ} {g : Ghosts K} (test : K × V → Bool) (s n k : TakeWalk K V p g) (v : V) (lent : LentFirst s.map.now n.map.now (take_left s) (take_left n) n.lent v v) (left : take_left k ≡ take_left n) where
  -- the pair was kept, and does not pass the test
  pub walk_kept : test (lent.key, v) ≡ false → k.map.now ≡ n.map.now → (once_taken test k ≡ once_taken test s) × (still_to_take test k ≡ still_to_take test s)
  walk_kept t same = (
    ap (λ l. pairs (taken_all test l k.map.now)) left ∙ ap (λ ps. pairs (taken_all test (take_left n) ps)) same ∙ ap pairs (kept_first test s.map.now n.map.now (take_left s) (take_left n) n.lent v lent t),
    ap (λ l. filter test (pairs l)) left ∙ sym (kept_left test s.map.now n.map.now (take_left s) (take_left n) n.lent v lent t),
  )

  -- it was taken, and passes the test
  pub walk_taken : test (lent.key, v) ≡ true → (pair : K × V) → MatchOption n.lent ⊤ (λ id. (leaf_in n.map.now id ≡ Some pair) × (k.map.now ≡ without_number n.map.now id)) → (once_taken test k ≡ once_taken test s) × (still_to_take test s ≡ pair ∷ still_to_take test k)
  walk_taken t pair taken =
      let at : (leaf_in n.map.now lent.number ≡ Some pair) × (k.map.now ≡ without_number n.map.now lent.number) = subst (λ (o : Option ℕ). MatchOption o ⊤ (λ id. (leaf_in n.map.now id ≡ Some pair) × (k.map.now ≡ without_number n.map.now id))) lent.is_last taken in
      let e : Some pair ≡ Some (lent.key, v) = sym at.0 ∙ lent_pair test s.map.now n.map.now (take_left s) (take_left n) n.lent v lent in
      let same : pair ≡ (lent.key, v) = cc in (
        ap (λ l. pairs (taken_all test l k.map.now)) left ∙ ap (λ ps. pairs (taken_all test (take_left n) ps)) at.1 ∙ ap pairs (taken_first test s.map.now n.map.now (take_left s) (take_left n) n.lent v lent t),
        taken_left test s.map.now n.map.now (take_left s) (take_left n) n.lent v lent t ∙ ap (λ l. (lent.key, v) ∷ filter test (pairs l)) (sym left) ∙ ap (λ x. x ∷ filter test (pairs (take_left k))) (sym same),
      )
