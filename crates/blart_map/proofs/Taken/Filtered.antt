-- What is kept by a closure that depends on the pair alone, or counts, and written by one that
-- keeps each pair.
use Rattle.std.proofs.Common.{◌≡◌, ℕ, zero, suc, ◌-◌, ltb, take, arith, List, [], ◌∷◌, filter, map, Bool, true, false, cond, refl, ap, ◌∙◌}
use Rattle.std.proofs.lemmas.Bool.{lt-ltb}
use Rattle.std.specs.Borrow.{Bor, MutBor}
use Rattle.std.specs.Map.Calls.{CalledAtPair}
use denote.Param.Members.{Mut}
use Rattle.blart_keys.specs.Walks.{Asked, picked, Retains, AsksPair}

-- the items that pass a test of a state and the item; each item changes the state
abbrev pub kept_by : {S X : Type 0} → (S → X → Bool) → (S → X → S) → S → List X → List X
kept_by test next s [] = []
kept_by test next s (x ∷ xs) = cond (test s x) (x ∷ kept_by test next (next s x) xs) (kept_by test next (next s x) xs)

picked_first : {X : Type 0} (b : Bool) (answers : List Bool) (y : X) (left : List X) → picked (b ∷ answers) (y ∷ left) ≡ cond b (y ∷ picked answers left) (picked answers left)
picked_first true answers y left = refl
picked_first false answers y left = refl

module _ {F K V : Type 0} (g : Mut F (Bor K × (MutBor V × Unit {0})) (Bool × (MutBor V × Unit {0}))) where
  -- ---- the closure shows a state, and its result depends on the state and the pair

  module _ {S : Type 0} (Shows : F → S → Type 0) (test : S → K × V → Bool) (next : S → K × V → S)
      (tells : (f : F) (s : S) (k : K) (v : V) (b : Bool) (w : V) (h : F) → Shows f s → CalledAtPair g f k v b w h → (b ≡ test s (k, v)) × (w ≡ v) × Shows h (next s (k, v))) where
    asked_kept : (old : List (K × V)) (f : F) (s : S) (answers : List Bool) (left : List (K × V)) (h : F) → Shows f s → Asked (AsksPair g) old f answers left h → picked answers left ≡ kept_by test next s old
    asked_kept [] f s [] [] h i a = refl
    asked_kept [] f s [] (y ∷ left) h i a = absurd a
    asked_kept [] f s (b ∷ answers) left h i a = absurd a
    asked_kept (x ∷ old) f s [] left h i a = absurd a
    asked_kept (x ∷ old) f s (b ∷ answers) [] h i a = absurd a
    asked_kept (x ∷ old) f s (b ∷ answers) (y ∷ left) h i a =
        let t = tells f s x.0 x.1 b y.1 a.0 i a.1.called in
        let same : y ≡ x = λ j. (a.1.same_key j, t.1 j) in
        let ih = asked_kept old a.0 (next s x) answers left h t.2 a.2 in
        picked_first b answers y left ∙ ap (λ c. cond c (y ∷ picked answers left) (picked answers left)) t.0
        ∙ ap (λ z. cond (test s x) (z ∷ picked answers left) (picked answers left)) same ∙ ap (λ l. cond (test s x) (x ∷ l) l) ih

    pub kept_by_retained : (f : F) (s : S) (old new : List (K × V)) → Shows f s → Retains (AsksPair g) old f new → new ≡ kept_by test next s old
    kept_by_retained f s old new i r = r.kept ∙ asked_kept old f s r.answers r.left r.after i r.asked

  -- ---- its result depends on the pair alone

  module _ (I : F → Type 0) (test : K × V → Bool) (tells : (f : F) (k : K) (v : V) (b : Bool) (w : V) (h : F) → I f → CalledAtPair g f k v b w h → (b ≡ test (k, v)) × (w ≡ v) × I h) where
    kept_all : (xs : List (K × V)) → kept_by (λ (s : Unit {0}) x. test x) (λ s x. s) tt xs ≡ filter test xs
    kept_all [] = refl
    kept_all (x ∷ xs) = ap (λ l. cond (test x) (x ∷ l) l) (kept_all xs)

    -- so the pairs that are kept are the filter
    pub filter_from_retained : (f : F) (old new : List (K × V)) → I f → Retains (AsksPair g) old f new → new ≡ filter test old
    filter_from_retained f old new i r = kept_by_retained (λ f s. I f) (λ s x. test x) (λ s x. s) (λ f s k v b w h. tells f k v b w h) f tt old new i r ∙ kept_all old

  -- ---- it keeps each pair, with a value that depends on the pair alone

  module _ (I : F → Type 0) (value : K × V → V) (tells : (f : F) (k : K) (v : V) (b : Bool) (w : V) (h : F) → I f → CalledAtPair g f k v b w h → (b ≡ true) × (w ≡ value (k, v)) × I h) where
    asked_written : (old : List (K × V)) (f : F) (answers : List Bool) (left : List (K × V)) (h : F) → I f → Asked (AsksPair g) old f answers left h → picked answers left ≡ map (λ p. (p.0, value p)) old
    asked_written [] f [] [] h i a = refl
    asked_written [] f [] (y ∷ left) h i a = absurd a
    asked_written [] f (b ∷ answers) left h i a = absurd a
    asked_written (x ∷ old) f [] left h i a = absurd a
    asked_written (x ∷ old) f (b ∷ answers) [] h i a = absurd a
    asked_written (x ∷ old) f (b ∷ answers) (y ∷ left) h i a =
        let t = tells f x.0 x.1 b y.1 a.0 i a.1.called in
        let same : y ≡ (x.0, value x) = λ j. (a.1.same_key j, t.1 j) in
        let ih = asked_written old a.0 answers left h t.2 a.2 in
        picked_first b answers y left ∙ ap (λ c. cond c (y ∷ picked answers left) (picked answers left)) t.0 ∙ ap (λ z. z ∷ picked answers left) same ∙ ap (λ l. (x.0, value x) ∷ l) ih

    -- so all pairs are kept, with these values
    pub map_from_retained : (f : F) (old new : List (K × V)) → I f → Retains (AsksPair g) old f new → new ≡ map (λ p. (p.0, value p)) old
    map_from_retained f old new i r = r.kept ∙ asked_written old f r.answers r.left r.after i r.asked

-- a closure that counts down from n keeps the first n items
pub take_from_kept : {X : Type 0} (n : ℕ) (xs : List X) → kept_by (λ n x. ltb 0 n) (λ n x. n - 1) n xs ≡ take n xs
take_from_kept zero [] = refl
take_from_kept (suc n) [] = refl
take_from_kept zero (x ∷ xs) = take_from_kept zero xs
take_from_kept (suc n) (x ∷ xs) =
    let t : ltb 0 (suc n) ≡ true = lt-ltb 0 (suc n) (omega arith) in
    let m : suc n - 1 ≡ n = omega arith in
    let rest = kept_by (λ n x. ltb 0 n) (λ n x. n - 1) (suc n - 1) xs in
    ap (λ b. cond b (x ∷ rest) rest) t ∙ ap (λ k. x ∷ kept_by (λ n x. ltb 0 n) (λ n x. n - 1) k xs) m ∙ ap (λ l. x ∷ l) (take_from_kept n xs)
