-- What a closure that shows a state leaves, if it is called on one value after another.
use Rattle.std.proofs.Common.{◌≡◌, Bool, true, false, List, [], ◌∷◌, filter, cond, if◌then◌else◌, ap, ◌∙◌, refl}
use Rattle.blart_map.specs.EachWritten.{CalledAtEach, with_values, with_values_where, WritesEach, WritesWhere}

-- the pairs with values that depend on a state and the pair; each pair changes the state
abbrev pub valued_by : {S K V : Type 0} → (S → K × V → V) → (S → K × V → S) → S → List (K × V) → List (K × V)
valued_by value next s [] = []
valued_by value next s (x ∷ xs) = (x.0, value s x) ∷ valued_by value next (next s x) xs

-- the same for the pairs that pass the test; the others are unchanged, and do not change the state
abbrev pub valued_where : {S K V : Type 0} → (K × V → Bool) → (S → K × V → V) → (S → K × V → S) → S → List (K × V) → List (K × V)
valued_where test value next s [] = []
valued_where test value next s (x ∷ xs) = if test x then (x.0, value s x) ∷ valued_where test value next (next s x) xs else x ∷ valued_where test value next s xs

module _ {F K V S : Type 0} (R : F → K × V → V → F → Type 0) (Shows : F → S → Type 0) (value : S → K × V → V) (next : S → K × V → S)
    (tells : (f : F) (s : S) (x : K × V) (w : V) (h : F) → Shows f s → R f x w h → (w ≡ value s x) × Shows h (next s x)) where
  called_by : (xs : List (K × V)) (f : F) (s : S) (values : List V) (g : F) → Shows f s → CalledAtEach R xs f values g → with_values values xs ≡ valued_by value next s xs
  called_by [] f s [] g i c = refl
  called_by [] f s (w ∷ values) g i c = absurd c
  called_by (x ∷ xs) f s [] g i c = absurd c
  called_by (x ∷ xs) f s (w ∷ values) g i c =
      let t = tells f s x w c.0 i c.1 in
      ap (λ v. (x.0, v) ∷ with_values values xs) t.0 ∙ ap (λ l. (x.0, value s x) ∷ l) (called_by xs c.0 (next s x) values g t.1 c.2)

  -- so these are the values
  pub valued_by_each : (f : F) (s : S) (old new : List (K × V)) → Shows f s → WritesEach R old f new → new ≡ valued_by value next s old
  valued_by_each f s old new i r = r.written ∙ called_by old f s r.values r.after i r.called

  module _ (test : K × V → Bool) where
    called_where : (xs : List (K × V)) (f : F) (s : S) (values : List V) (g : F) → Shows f s → CalledAtEach R (filter test xs) f values g → with_values_where test values xs ≡ valued_where test value next s xs
    called_where [] f s values g i c = refl
    called_where (x ∷ xs) f s values g i c = go (λ f s values i c. called_where xs f s values g i c) (test x) refl values c
      where
        go : ((f : F) (s : S) (values : List V) → Shows f s → CalledAtEach R (filter test xs) f values g → with_values_where test values xs ≡ valued_where test value next s xs) → (b : Bool) → test x ≡ b → (values : List V) → CalledAtEach R (cond b (x ∷ filter test xs) (filter test xs)) f values g → with_values_where test values (x ∷ xs) ≡ valued_where test value next s (x ∷ xs)
        go rest true e [] c = absurd c
        go rest true e (w ∷ values) c =
            let t = tells f s x w c.0 i c.1 in
            rw e (ap (λ v. (x.0, v) ∷ with_values_where test values xs) t.0 ∙ ap (λ l. (x.0, value s x) ∷ l) (rest c.0 (next s x) values t.1 c.2))
        go rest false e [] c = rw e (ap (λ l. x ∷ l) (rest f s [] i c))
        go rest false e (w ∷ values) c = rw e (ap (λ l. x ∷ l) (rest f s (w ∷ values) i c))

    pub valued_where_each : (f : F) (s : S) (old new : List (K × V)) → Shows f s → WritesWhere R test old f new → new ≡ valued_where test value next s old
    valued_where_each f s old new i r = r.written ∙ called_where old f s r.values r.after i r.called
