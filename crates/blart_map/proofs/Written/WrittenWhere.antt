-- Values that a closure writes for the pairs that pass a test.
use Rattle.std.proofs.Common.{◌≡◌, Bool, true, false, cond, List, [], ◌∷◌, filter, map, refl, sym, ap, ◌∙◌, subst}
use Rattle.std.specs.Borrow.{Bor, MutBor}
use denote.Param.Members.{Mut}
use Rattle.art_tree.specs.Leaves.{Numbered, AreDistinct}
use Rattle.blart_map.specs.Content.{pairs}
use Rattle.blart_map.specs.EachWritten.{CalledAtEach, with_values_where, written_with, WritesLeft, WritesWhere, LeavesPair, ActsWhere}
use Rattle.blart_map.proofs.Written.EachWritten.{after_front, front_written}
use Rattle.art_edits.proofs.Numbers.{lacks_filter}
use Rattle.blart_keys.proofs.Mapped.{filter-map}
use Rattle.art_tree.specs.Pairs.{pairs_of}

module _ {F K V : Type 0} (R : F → K × V → V → F → Type 0) (t : Numbered K V → Bool) (h : K × V → K × V) (f : F)
    (outside : (p : Numbered K V) → t p ≡ false → h p.1 ≡ p.1)
    (within : (p : Numbered K V) (w : V) (f' : F) → t p ≡ true → R f p.1 w f' → (f' ≡ f) × ((h p.1).0 ≡ p.1.0) × (w ≡ (h p.1).1)) where
  where_written : (ps : List (Numbered K V)) (values : List V) (g : F) → AreDistinct ps → CalledAtEach R (pairs_of (filter t ps)) f values g → pairs_of (written_with values (filter t ps) ps) ≡ map h (pairs_of ps)
  where_written [] [] g d c = refl
  where_written [] (w ∷ values) g d c = absurd c
  where_written (p ∷ ps) values g d c = go (λ values c. where_written ps values g d.1 c) (t p) refl values c
    where
      go : ((values : List V) → CalledAtEach R (pairs_of (filter t ps)) f values g → pairs_of (written_with values (filter t ps) ps) ≡ map h (pairs_of ps)) → (b : Bool) → t p ≡ b → (values : List V) → CalledAtEach R (pairs_of (cond b (p ∷ filter t ps) (filter t ps))) f values g → pairs_of (written_with values (cond b (p ∷ filter t ps) (filter t ps)) (p ∷ ps)) ≡ map h (p.1 ∷ pairs_of ps)
      go rest true e [] c = absurd c
      go rest true e (w ∷ values) c =
          let a = within p w c.0 e c.1 in
          let c' = subst (λ s. CalledAtEach R (pairs_of (filter t ps)) s values g) a.0 c.2 in
          let first : (p.1.0, w) ≡ h p.1 = λ j. (sym a.1 j, a.2 j) in
          ap pairs_of (front_written w values p ps (filter t ps) ∙ after_front values (filter t ps) ps (p.0, (p.1.0, w)) (lacks_filter t ps p.0 d.0))
          ∙ ap (λ l. (p.1.0, w) ∷ l) (rest values c') ∙ ap (λ y. y ∷ map h (pairs_of ps)) first
      go rest false e values c =
          ap pairs_of (after_front values (filter t ps) ps p (lacks_filter t ps p.0 d.0))
          ∙ ap (λ l. p.1 ∷ l) (rest values c) ∙ ap (λ y. y ∷ map h (pairs_of ps)) (sym (outside p e))

  pub writes_where : (left old new S T : List (Numbered K V)) → AreDistinct old → WritesLeft R left old f new → T ≡ new → old ≡ S → left ≡ filter t S → pairs T ≡ map h (pairs S)
  unfolding pairs
  writes_where left old new S T d r e same some =
      let d' = subst AreDistinct same d in
      let c = subst (λ (l : List (Numbered K V)). CalledAtEach R (pairs_of l) f r.values r.after) some r.called in
      ap pairs_of (e ∙ r.written ∙ ap (λ l. written_with r.values l old) some ∙ ap (λ l. written_with r.values (filter t S) l) same) ∙ where_written S r.values r.after d' c

module _ {F K V : Type 0} (R : F → K × V → V → F → Type 0) (t : K × V → Bool) where
  -- a first pair that fails the test is unchanged
  stands : (x : K × V) (xs : List (K × V)) (values : List V) → t x ≡ false → with_values_where t values (x ∷ xs) ≡ x ∷ with_values_where t values xs
  stands x xs [] e = refl
  stands x xs (w ∷ values) e = rw e refl

  called_where : (ps : List (Numbered K V)) (f : F) (values : List V) (g : F) → AreDistinct ps → CalledAtEach R (pairs_of (filter (λ p. t p.1) ps)) f values g → pairs_of (written_with values (filter (λ p. t p.1) ps) ps) ≡ with_values_where t values (pairs_of ps)
  called_where [] f [] g d c = refl
  called_where [] f (w ∷ values) g d c = absurd c
  called_where (p ∷ ps) f values g d c = go (λ f values c. called_where ps f values g d.1 c) (t p.1) refl f values c
    where
      rest : List (Numbered K V)
      rest = filter (λ p. t p.1) ps

      go : ((f : F) (values : List V) → CalledAtEach R (pairs_of rest) f values g → pairs_of (written_with values rest ps) ≡ with_values_where t values (pairs_of ps)) → (b : Bool) → t p.1 ≡ b → (f : F) (values : List V) → CalledAtEach R (pairs_of (cond b (p ∷ rest) rest)) f values g → pairs_of (written_with values (cond b (p ∷ rest) rest) (p ∷ ps)) ≡ with_values_where t values (p.1 ∷ pairs_of ps)
      go others true e f [] c = absurd c
      go others true e f (w ∷ values) c =
          ap pairs_of (front_written w values p ps rest ∙ after_front values rest ps (p.0, (p.1.0, w)) (lacks_filter (λ p. t p.1) ps p.0 d.0))
          ∙ rw e (ap (λ l. (p.1.0, w) ∷ l) (others c.0 values c.2))
      go others false e f values c =
          ap pairs_of (after_front values rest ps p (lacks_filter (λ p. t p.1) ps p.0 d.0))
          ∙ ap (λ l. p.1 ∷ l) (others f values c) ∙ sym (stands p.1 (pairs_of ps) values e)

  pub writes_called : (f : F) (left old new S T : List (Numbered K V)) → AreDistinct old → WritesLeft R left old f new → T ≡ new → old ≡ S → left ≡ filter (λ p. t p.1) S → WritesWhere R t (pairs S) f (pairs T)
  unfolding pairs
  writes_called f left old new S T d r e same some =
      let d' = subst AreDistinct same d in
      let c = subst (λ (l : List (Numbered K V)). CalledAtEach R (pairs_of l) f r.values r.after) some r.called in
      record {
        values = r.values;
        after = r.after;
        called = subst (λ (xs : List (K × V)). CalledAtEach R xs f r.values r.after) (sym (filter-map (λ (p : Numbered K V). p.1) t S)) c;
        written = ap pairs_of (e ∙ r.written ∙ ap (λ l. written_with r.values l old) some ∙ ap (λ l. written_with r.values (filter (λ p. t p.1) S) l) same) ∙ called_where S f r.values r.after d' c;
      }

module _ {F K V : Type 0} (g : Mut F (Bor K × (MutBor V × Unit {0})) (Unit {0} × (MutBor V × Unit {0}))) where
  pub acts_within : (f : F) (t : Numbered K V → Bool) (h : K × V → K × V) → ActsWhere g f t h → (p : Numbered K V) (w : V) (f' : F) → t p ≡ true → LeavesPair g f p.1 w f' → (f' ≡ f) × ((h p.1).0 ≡ p.1.0) × (w ≡ (h p.1).1)
  acts_within f t h acts p w f' e l =
      let same : (l.key.now, l.value.now) ≡ p.1 = λ j. (l.shows.0 j, l.shows.1 j) in
      let a = acts.1 p.0 l.key l.value l.left f' (ap (λ y. t (p.0, y)) same ∙ e) l.called in
      (a.0, sym (ap (λ y. (h y).0) same) ∙ a.1 ∙ l.shows.0, sym l.leaves ∙ a.2 ∙ ap (λ y. (h y).1) same)
