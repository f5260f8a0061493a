-- Values that a closure writes one after the other.
use Rattle.std.proofs.Common.{◌≡◌, ℕ, eqb, length, true, false, cond, List, [], ◌∷◌, Option, Some, None, option_map, bytes_eq, map, refl, sym, ap, ◌∙◌, subst}
use Rattle.std.proofs.lemmas.Bool.{ne_eqb, eq-eqb}
use Rattle.std.proofs.lemmas.List.{length-map}
use Rattle.std.specs.Borrow.{Bor, MutBor}
use denote.Param.Members.{Mut}
use Rattle.blart_keys.specs.Content.{at}
use Rattle.blart_keys.specs.Stored.{bytes, pair_at}
use Rattle.art_tree.specs.Leaves.{Numbered, AreDistinct, Lacks, with_value}
use Rattle.art_tree.specs.Pairs.{pairs_of}
use Rattle.art_tree.proofs.CallerLemmas.{numbers-with_value}
use Rattle.art_walk.specs.declared.cursor.Cursor.{Cursor}
use Rattle.art_walk.specs.Lent.{written_all, numbers, walk_fits, count_fits}
use Rattle.blart_map.specs.Content.{pairs}
use Rattle.blart_map.specs.EachWritten.{CalledAtEach, with_values, written_with, WritesLeft, WritesEach, LeavesValue, ActsOnValue, LeavesPair, ActsOnPair}

module _ {K V : Type 0} where
  -- a first pair with another number is unchanged
  pub after_front : (values : List V) (left ps : List (Numbered K V)) (p : Numbered K V) → Lacks left p.0 → written_with values left (p ∷ ps) ≡ p ∷ written_with values left ps
  after_front [] left ps p l = refl
  after_front (w ∷ values) [] ps p l = refl
  after_front (w ∷ values) (q ∷ left) ps p l = rw (ne_eqb p.0 q.0 (λ e. l.0 (sym e))) (after_front values left (with_value ps q.0 w) p l.1)

  -- the first pair is written first
  pub front_written : (w : V) (values : List V) (p : Numbered K V) (ps rest : List (Numbered K V)) → written_with (w ∷ values) (p ∷ rest) (p ∷ ps) ≡ written_with values rest ((p.0, (p.1.0, w)) ∷ ps)
  front_written w values p ps rest = rw (eq-eqb p.0 p.0 refl) refl

  -- the numbers are unchanged
  numbers_with : (values : List V) (left ps : List (Numbered K V)) → numbers (written_with values left ps) ≡ numbers ps
  numbers_with [] left ps = refl
  numbers_with (w ∷ values) [] ps = refl
  numbers_with (w ∷ values) (p ∷ left) ps = numbers_with values left (with_value ps p.0 w) ∙ numbers-with_value ps p.0 w

  -- so are the keys
  keys_with : (ps : List (Numbered K V)) (i : ℕ) (w : V) → map (λ p. p.0) (pairs_of (with_value ps i w)) ≡ map (λ p. p.0) (pairs_of ps)
  keys_with [] i w = refl
  keys_with (p ∷ ps) i w =
      elim (eqb p.0 i) as (λ b. map (λ p. p.0) (pairs_of (cond b ((p.0, (p.1.0, w)) ∷ ps) (p ∷ with_value ps i w))) ≡ p.1.0 ∷ map (λ p. p.0) (pairs_of ps)) [
        | true ↦ refl
        | false ↦ ap (λ l. p.1.0 ∷ l) (keys_with ps i w)
      ]

  keys_written : (values : List V) (left ps : List (Numbered K V)) → map (λ p. p.0) (pairs_of (written_with values left ps)) ≡ map (λ p. p.0) (pairs_of ps)
  keys_written [] left ps = refl
  keys_written (w ∷ values) [] ps = refl
  keys_written (w ∷ values) (p ∷ left) ps = keys_written values left (with_value ps p.0 w) ∙ keys_with ps p.0 w

module _ {F K V : Type 0} (R : F → K × V → V → F → Type 0) where
  -- the keys are unchanged
  pub same_keys : (left old new : List (Numbered K V)) (f : F) → WritesLeft R left old f new → map (λ p. p.0) (pairs new) ≡ map (λ p. p.0) (pairs old)
  unfolding pairs
  same_keys left old new f r = ap (λ l. map (λ p. p.0) (pairs_of l)) r.written ∙ keys_written r.values left old

  -- and the number of pairs is unchanged
  pub same_length : (left old new : List (Numbered K V)) (f : F) → WritesLeft R left old f new → length (pairs new) ≡ length (pairs old)
  same_length left old new f r = sym (length-map (pairs new) (λ p. p.0)) ∙ ap length (same_keys left old new f r) ∙ length-map (pairs old) (λ p. p.0)

  -- a walk fits the list as before
  pub walk_fits_after : (c : Cursor) (lent : Option ℕ) (left old new : List (Numbered K V)) (f : F) → WritesLeft R left old f new → walk_fits c lent (numbers old) ≡ true → walk_fits c lent (numbers new) ≡ true
  walk_fits_after c lent left old new f r fits = ap (walk_fits c lent) (ap numbers r.written ∙ numbers_with r.values left old) ∙ fits

  -- and its count fits as before
  pub fits_after : (c : Cursor) (lent : Option ℕ) (n : ℕ) (left old new : List (Numbered K V)) (f : F) → WritesLeft R left old f new → count_fits c lent n (numbers old) ≡ true → count_fits c lent n (numbers new) ≡ true
  fits_after c lent n left old new f r fits = ap (count_fits c lent n) (ap numbers r.written ∙ numbers_with r.values left old) ∙ fits

  -- ---- if all pairs were left

  each_written : (values : List V) (ps : List (Numbered K V)) (f g : F) → AreDistinct ps → CalledAtEach R (pairs_of ps) f values g → pairs_of (written_with values ps ps) ≡ with_values values (pairs_of ps)
  each_written [] [] f g d c = refl
  each_written (w ∷ values) [] f g d c = absurd c
  each_written [] (p ∷ ps) f g d c = absurd c
  each_written (w ∷ values) (p ∷ ps) f g d c =
      ap pairs_of (front_written w values p ps ps ∙ after_front values ps ps (p.0, (p.1.0, w)) d.0)
      ∙ ap (λ l. (p.1.0, w) ∷ l) (each_written values ps c.0 g d.1 c.2)

  writes_each : (left old new S : List (Numbered K V)) (f : F) → AreDistinct old → WritesLeft R left old f new → old ≡ S → left ≡ S → WritesEach R (pairs S) f (pairs new)
  unfolding pairs
  writes_each left old new S f d r same all =
      let e : left ≡ old = all ∙ sym same in
      let called = subst (λ (l : List (Numbered K V)). CalledAtEach R (pairs_of l) f r.values r.after) all r.called in
      let from = subst (λ (l : List (Numbered K V)). CalledAtEach R (pairs_of l) f r.values r.after) e r.called in
      record {
        values = r.values;
        after = r.after;
        called = called;
        written = ap pairs_of (r.written ∙ ap (λ l. written_with r.values l old) e) ∙ each_written r.values old f r.after d from ∙ ap (λ l. with_values r.values (pairs_of l)) same;
      }

  pub writes_to : (left old new S T : List (Numbered K V)) (f : F) → AreDistinct old → WritesLeft R left old f new → old ≡ S → left ≡ S → T ≡ new → WritesEach R (pairs S) f (pairs T)
  writes_to left old new S T f d r same all e = subst (λ (l : List (Numbered K V)). WritesEach R (pairs S) f (pairs l)) (sym e) (writes_each left old new S f d r same all)

  -- ---- a closure that is a function

  module _ (h : K × V → K × V) (f : F) (acts : (x : K × V) (w : V) (f' : F) → R f x w f' → (f' ≡ f) × ((h x).0 ≡ x.0) × (w ≡ (h x).1)) where
    acts_written : (values : List V) (left ps : List (Numbered K V)) (g : F) → CalledAtEach R (pairs_of left) f values g → written_with values left ps ≡ written_all (λ x. (h x).1) left ps
    acts_written [] [] ps g c = refl
    acts_written (w ∷ values) [] ps g c = absurd c
    acts_written [] (p ∷ left) ps g c = absurd c
    acts_written (w ∷ values) (p ∷ left) ps g c =
        let a = acts p.1 w c.0 c.1 in
        let c' = subst (λ s. CalledAtEach R (pairs_of left) s values g) a.0 c.2 in
        ap (λ u. written_with values left (with_value ps p.0 u)) a.2 ∙ acts_written values left (with_value ps p.0 (h p.1).1) g c'

    pub writes_all : (left old new : List (Numbered K V)) → WritesLeft R left old f new → pairs new ≡ pairs (written_all (λ x. (h x).1) left old)
    writes_all left old new r = ap pairs (r.written ∙ acts_written r.values left old r.after r.called)

    acts_mapped : (values : List V) (xs : List (K × V)) (g : F) → CalledAtEach R xs f values g → with_values values xs ≡ map h xs
    acts_mapped [] [] g c = refl
    acts_mapped (w ∷ values) [] g c = absurd c
    acts_mapped [] (x ∷ xs) g c = absurd c
    acts_mapped (w ∷ values) (x ∷ xs) g c =
        let a = acts x w c.0 c.1 in
        let c' = subst (λ s. CalledAtEach R xs s values g) a.0 c.2 in
        let first : (x.0, w) ≡ h x = λ j. (sym a.1 j, a.2 j) in
        ap (λ y. y ∷ with_values values xs) first ∙ ap (λ l. h x ∷ l) (acts_mapped values xs g c')

    pub writes_mapped : (left old new S T : List (Numbered K V)) → AreDistinct old → WritesLeft R left old f new → old ≡ S → left ≡ S → T ≡ new → pairs T ≡ map h (pairs S)
    writes_mapped left old new S T d r same all e =
        let w = writes_each left old new S f d r same all in
        ap pairs e ∙ w.written ∙ acts_mapped w.values (pairs S) w.after w.called

    stored_mapped : (kb : K → List ℕ) (q : List ℕ) (values : List V) (xs : List (K × V)) (g : F) → CalledAtEach R xs f values g → at (bytes kb) (map h xs) q ≡ option_map h (at (bytes kb) xs q)
    stored_mapped kb q [] [] g c = refl
    stored_mapped kb q (w ∷ values) [] g c = absurd c
    stored_mapped kb q [] (x ∷ xs) g c = absurd c
    stored_mapped kb q (w ∷ values) (x ∷ xs) g c =
        let a = acts x w c.0 c.1 in
        let rest = stored_mapped kb q values xs g (subst (λ s. CalledAtEach R xs s values g) a.0 c.2) in
        ap (λ k. cond (bytes_eq (kb k) q) (Some (h x)) (at (bytes kb) (map h xs) q)) a.1
        ∙ elim (bytes_eq (kb x.0) q) as (λ b. cond b (Some (h x)) (at (bytes kb) (map h xs) q) ≡ option_map h (cond b (Some x) (at (bytes kb) xs q))) [ true ↦ refl | false ↦ rest ]

    pub writes_stored : (kb : K → List ℕ) (q : List ℕ) (left old new S T : List (Numbered K V)) → AreDistinct old → WritesLeft R left old f new → old ≡ S → left ≡ S → T ≡ new → pair_at kb (pairs T) q ≡ option_map h (pair_at kb (pairs S) q)
    unfolding pair_at
    writes_stored kb q left old new S T d r same all e =
        let w = writes_each left old new S f d r same all in
        ap (λ l. at (bytes kb) l q) (writes_mapped left old new S T d r same all e) ∙ stored_mapped kb q w.values (pairs S) w.after w.called

-- the value of a pair whose value is mapped
pub value_mapped : {K V : Type 0} (h : V → V) (o : Option (K × V)) → option_map (λ (p : K × V). p.1) (option_map (λ (p : K × V). (p.0, h p.1)) o) ≡ option_map h (option_map (λ (p : K × V). p.1) o)
value_mapped h None = refl
value_mapped h (Some x) = refl

-- ---- the closure's call

module _ {F K V : Type 0} (g : Mut F (MutBor V × Unit {0}) (Unit {0} × (MutBor V × Unit {0}))) where
  pub acts_on_value : (f : F) (h : K × V → K × V) → ActsOnValue g f h → (x : K × V) (w : V) (f' : F) → LeavesValue g f x w f' → (f' ≡ f) × ((h x).0 ≡ x.0) × (w ≡ (h x).1)
  acts_on_value f h acts x w f' l =
      let a = acts x.0 l.value l.left f' l.called in
      let same : h (x.0, l.value.now) ≡ h x = ap (λ v. h (x.0, v)) l.shows in
      (a.0, sym (ap (λ y. y.0) same) ∙ a.1, sym l.leaves ∙ a.2 ∙ ap (λ y. y.1) same)

module _ {F K V : Type 0} (g : Mut F (Bor K × (MutBor V × Unit {0})) (Unit {0} × (MutBor V × Unit {0}))) where
  pub acts_on_pair : (f : F) (h : K × V → K × V) → ActsOnPair g f h → (x : K × V) (w : V) (f' : F) → LeavesPair g f x w f' → (f' ≡ f) × ((h x).0 ≡ x.0) × (w ≡ (h x).1)
  acts_on_pair f h acts x w f' l =
      let a = acts l.key l.value l.left f' l.called in
      let same : h (l.key.now, l.value.now) ≡ h x = ap (λ k. h (k, l.value.now)) l.shows.0 ∙ ap (λ v. h (x.0, v)) l.shows.1 in
      (a.0, sym (ap (λ y. y.0) same) ∙ a.1 ∙ l.shows.0, sym l.leaves ∙ a.2 ∙ ap (λ y. y.1) same)
