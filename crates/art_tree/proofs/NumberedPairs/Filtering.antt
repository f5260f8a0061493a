-- Numbered pairs that pass a test, if one is removed; and lists whose ends are both known.
use Rattle.std.proofs.Common.{◌≡◌, ◌≢◌, ℕ, Bool, true, false, cond, inl, inr, List, [], ◌∷◌, filter, refl, sym, ap, ◌∙◌, subst, Some}
use Rattle.std.proofs.lemmas.Bool.Decides.{eqb_tells}
use Rattle.blart_keys.proofs.RankLemmas.{Member, filter_member}
use Rattle.art_tree.specs.Leaves.{Numbered, leaf_in, AreDistinct, Lacks, first_number, last_number, without_number}
use Rattle.art_rows.proofs.CallerLemmas.{Has-last, has_not_lacks}
use Rattle.art_tree.proofs.NumberedPairs.Numbers.{leaf_in-member, Member-from_leaf_in}

module _ {K V : Type 0} (test : Numbered K V → Bool) where
  -- a list that lacks a number still lacks it after a filter
  Lacks-filter : (ps : List (Numbered K V)) (i : ℕ) → Lacks ps i → Lacks (filter test ps) i
  Lacks-filter [] i l = tt
  Lacks-filter (p ∷ ps) i l = elim (test p) as (λ b. Lacks (cond b (p ∷ filter test ps) (filter test ps)) i) [ true ↦ (l.0, Lacks-filter ps i l.1) | false ↦ Lacks-filter ps i l.1 ]

  -- the numbers remain distinct after a filter
  pub AreDistinct-filter : (ps : List (Numbered K V)) → AreDistinct ps → AreDistinct (filter test ps)
  AreDistinct-filter [] d = tt
  AreDistinct-filter (p ∷ ps) d = elim (test p) as (λ b. AreDistinct (cond b (p ∷ filter test ps) (filter test ps))) [ true ↦ (Lacks-filter ps p.0 d.0, AreDistinct-filter ps d.1) | false ↦ AreDistinct-filter ps d.1 ]

  -- a list without a number that it lacks is the list
  lacking_without : (ps : List (Numbered K V)) (i : ℕ) → Lacks ps i → without_number ps i ≡ ps
  lacking_without [] i l = refl
  lacking_without (p ∷ ps) i l = elim (eqb_tells p.0 i) [ inl t ↦ absurd (l.0 t.1) | inr f ↦ rw f.0 (ap (λ l. p ∷ l) (lacking_without ps i l.1)) ]

  -- a filter and a removal commute
  pub filter-without : (ps : List (Numbered K V)) (i : ℕ) → AreDistinct ps → filter test (without_number ps i) ≡ without_number (filter test ps) i
  filter-without [] i d = refl
  filter-without (p ∷ ps) i d = elim (eqb_tells p.0 i) [
    | inl t ↦ rw t.0 (elim (test p) as (λ b. filter test ps ≡ without_number (cond b (p ∷ filter test ps) (filter test ps)) i) [
      | true ↦ rw t.0 refl
      | false ↦ sym (lacking_without (filter test ps) i (Lacks-filter ps i (subst (Lacks ps) t.1 d.0)))
    ])
    | inr f ↦ rw f.0 (elim (test p) as (λ b. cond b (p ∷ filter test (without_number ps i)) (filter test (without_number ps i)) ≡ without_number (cond b (p ∷ filter test ps) (filter test ps)) i) [
      | true ↦ rw f.0 (ap (λ l. p ∷ l) (filter-without ps i d.1))
      | false ↦ filter-without ps i d.1
    ])
  ]

  -- if a filter drops the pair of a number, the removal of that pair does not change its result
  pub dropped_without : (ps : List (Numbered K V)) (i : ℕ) → ((x : K × V) → leaf_in ps i ≡ Some x → test (i, x) ≡ false) → filter test (without_number ps i) ≡ filter test ps
  dropped_without [] i h = refl
  dropped_without (p ∷ ps) i h = elim (eqb_tells p.0 i) [
    | inl t ↦
        let own : leaf_in (p ∷ ps) i ≡ Some p.1 = rw t.0 refl in
        let drops : test p ≡ false = ap (λ n. test (n, p.1)) t.1 ∙ h p.1 own in
        rw t.0 (ap (λ b. cond b (p ∷ filter test ps) (filter test ps)) (sym drops))
    | inr f ↦
        let ih = dropped_without ps i (λ x e. h x (let r : leaf_in (p ∷ ps) i ≡ leaf_in ps i = rw f.0 refl in r ∙ e)) in
        rw f.0 (ap (λ l. cond (test p) (p ∷ l) l) ih)
  ]

  -- if all items pass a filter, its result is the list
  pub filter_every : (ps : List (Numbered K V)) → ((y : Numbered K V) → Member y ps → test y ≡ true) → filter test ps ≡ ps
  filter_every [] h = refl
  filter_every (p ∷ ps) h = ap (λ b. cond b (p ∷ filter test ps) (filter test ps)) (h p (inl refl)) ∙ ap (λ l. p ∷ l) (filter_every ps (λ y m. h y (inr m)))

  -- a pair that passes a filter is the pair of its number
  pub stood_filter : (ps : List (Numbered K V)) → AreDistinct ps → (j : ℕ) (x : K × V) → leaf_in (filter test ps) j ≡ Some x → leaf_in ps j ≡ Some x
  stood_filter ps d j x e = leaf_in-member ps j x d (filter_member test ps (j, x) (Member-from_leaf_in (filter test ps) j x e)).0

module _ {K V : Type 0} where
  -- a list that begins with the pair of its first number, and a second pair
  pub record HasTwoPairs (S : List (Numbered K V)) (first last : ℕ) : Type 0 where
    pub pair : K × V
    pub second : Numbered K V
    pub rest : List (Numbered K V)
    pub is : S ≡ (first, pair) ∷ second ∷ rest

  -- a list whose ends differ begins with two pairs
  pub two_ends : (S : List (Numbered K V)) (first last : ℕ) → first_number S ≡ Some first → last_number S ≡ Some last → first ≢ last → HasTwoPairs S first last
  two_ends [] first last e f off = absurd cc
  two_ends (p ∷ []) first last e f off = let a : p.0 ≡ first = cc in let b : p.0 ≡ last = cc in absurd (off (sym a ∙ b))
  two_ends (p ∷ q ∷ S) first last e f off = let a : p.0 ≡ first = cc in record { pair = p.1; second = q; rest = S; is = λ j. (a j, p.1) ∷ q ∷ S }

  -- the pair of a list whose two ends are the same
  pub only_one : (S : List (Numbered K V)) (i : ℕ) → AreDistinct S → first_number S ≡ Some i → last_number S ≡ Some i → (x : K × V) × (S ≡ (i, x) ∷ [])
  only_one [] i d e f = absurd cc
  only_one (p ∷ []) i d e f = let a : p.0 ≡ i = cc in (p.1, λ j. (a j, p.1) ∷ [])
  only_one (p ∷ q ∷ S) i d e f = let a : p.0 ≡ i = cc in absurd (has_not_lacks (q ∷ S) i (Has-last (q ∷ S) i f) (subst (Lacks (q ∷ S)) a d.0))
