-- What a walk over mutable values leaves if a closure is called on each of them.
use Rattle.std.specs.Prelude.{◌≡◌, ℕ, List, [], ◌∷◌, ◌++◌, Bool, true, false, filter, if◌then◌else◌}
use Rattle.std.specs.Fn.{Takes}
use Rattle.std.specs.List.{FoldsTo}
use denote.Ref.{Bor, MutBor}
use denote.Param.Members.{Mut, Called}
use Rattle.art_tree.specs.Leaves.{Numbered, with_value}
use Rattle.art_tree.specs.Pairs.{pairs_of}

-- `R f x w g`: a closure in state f, called on the pair x, may leave the value w and the state g
module _ {F K V : Type 0} (R : F → K × V → V → F → Type 0) where
  -- the closure was called once on each pair, in order, from state f to g, and left these values
  abbrev pub CalledAtEach : List (K × V) → F → List V → F → Type 0
  CalledAtEach [] f [] g = f ≡ g
  CalledAtEach (x ∷ xs) f (w ∷ values) g = (h : F) × R f x w h × CalledAtEach xs h values g
  CalledAtEach _ f _ g = ⊥

  -- a call on the pair may leave the state f'
  abbrev pub SomeCallAt : F → K × V → F → Type 0
  SomeCallAt f x f' = (w : V) × R f x w f'

  -- Q holds of each of these pairs, and of the state that the calls on the pairs before it left
  pub record CallableInTurn (Q : F → K × V → Type 0) (f : F) (xs : List (K × V)) : Type 0 where
    pub at : (before after : List (K × V)) (f' : F) (x : K × V) → xs ≡ before ++ x ∷ after → FoldsTo SomeCallAt f before f' → Q f' x

module _ {K V : Type 0} where
  -- these pairs with these values
  abbrev pub with_values : List V → List (K × V) → List (K × V)
  with_values (w ∷ values) (x ∷ xs) = (x.0, w) ∷ with_values values xs
  with_values _ _ = []

  -- these pairs, with these values in turn for the pairs that pass the test
  abbrev pub with_values_where : (K × V → Bool) → List V → List (K × V) → List (K × V)
  with_values_where test values [] = []
  with_values_where test [] (x ∷ xs) = x ∷ with_values_where test [] xs
  with_values_where test (w ∷ values) (x ∷ xs) = if test x then (x.0, w) ∷ with_values_where test values xs else x ∷ with_values_where test (w ∷ values) xs

  -- the list, with these values for the pairs that are left
  abbrev pub written_with : List V → List (Numbered K V) → List (Numbered K V) → List (Numbered K V)
  written_with (w ∷ values) (p ∷ left) ps = written_with values left (with_value ps p.0 w)
  written_with _ _ ps = ps

module _ {F K V : Type 0} (R : F → K × V → V → F → Type 0) where
  -- the closure was called on each pair that was left, and wrote its value
  pub record WritesLeft (left old : List (Numbered K V)) (f : F) (new : List (Numbered K V)) : Type 0 where
    pub values : List V
    pub after : F
    pub called : CalledAtEach R (pairs_of left) f values after
    pub written : new ≡ written_with values left old

  -- the same, if all pairs were left
  pub record WritesEach (old : List (K × V)) (f : F) (new : List (K × V)) : Type 0 where
    pub values : List V
    pub after : F
    pub called : CalledAtEach R old f values after
    pub written : new ≡ with_values values old

  -- the same, if the pairs that pass the test were left, and the others are unchanged
  pub record WritesWhere (test : K × V → Bool) (old : List (K × V)) (f : F) (new : List (K × V)) : Type 0 where
    pub values : List V
    pub after : F
    pub called : CalledAtEach R (filter test old) f values after
    pub written : new ≡ with_values_where test values old

-- ---- a closure that is called on the value

module _ {F K V : Type 0} (g : Mut F (MutBor V × Unit {0}) (Unit {0} × (MutBor V × Unit {0}))) where
  -- called on the value of a pair, it may leave this value
  pub record LeavesValue (f : F) (pair : K × V) (w : V) (f' : F) : Type 0 where
    pub value : MutBor V
    pub shows : value.now ≡ pair.1
    pub left : MutBor V
    pub called : Called g f (value, tt) (tt, (left, tt)) f'
    pub leaves : left.now ≡ w

  -- it may be called on the value of this pair
  abbrev pub TakesAtValue : F → K × V → Type 0
  TakesAtValue f pair = (value : MutBor V) → value.now ≡ pair.1 → Takes g f (value, tt)

  -- h keeps each key, and a call on a value leaves the value that h returns, and the same state
  abbrev pub ActsOnValue : F → (K × V → K × V) → Type 0
  ActsOnValue f h = (k : K) (value left : MutBor V) (f' : F) → Called g f (value, tt) (tt, (left, tt)) f' → (f' ≡ f) × ((h (k, value.now)).0 ≡ k) × (left.now ≡ (h (k, value.now)).1)

-- ---- a closure that is called on the key and the value

module _ {F K V : Type 0} (g : Mut F (Bor K × (MutBor V × Unit {0})) (Unit {0} × (MutBor V × Unit {0}))) where
  -- called on a key and its value, it may leave this value
  pub record LeavesPair (f : F) (pair : K × V) (w : V) (f' : F) : Type 0 where
    pub key : Bor K
    pub value : MutBor V
    pub shows : (key.now ≡ pair.0) × (value.now ≡ pair.1)
    pub left : MutBor V
    pub called : Called g f (key, (value, tt)) (tt, (left, tt)) f'
    pub leaves : left.now ≡ w

  -- it may be called on the key and the value of this pair
  abbrev pub TakesAtPair : F → K × V → Type 0
  TakesAtPair f pair = (key : Bor K) (value : MutBor V) → key.now ≡ pair.0 → value.now ≡ pair.1 → Takes g f (key, (value, tt))

  -- h keeps each key, and a call on a pair leaves the value that h returns, and the same state
  abbrev pub ActsOnPair : F → (K × V → K × V) → Type 0
  ActsOnPair f h = (key : Bor K) (value left : MutBor V) (f' : F) → Called g f (key, (value, tt)) (tt, (left, tt)) f' → (f' ≡ f) × ((h (key.now, value.now)).0 ≡ key.now) × (left.now ≡ (h (key.now, value.now)).1)

  -- the same for the pairs that pass the test, and h changes no other pair
  abbrev pub ActsWhere : F → (Numbered K V → Bool) → (K × V → K × V) → Type 0
  ActsWhere f test h =
      ((p : Numbered K V) → test p ≡ false → h p.1 ≡ p.1)
      × ((i : ℕ) (key : Bor K) (value left : MutBor V) (f' : F) → test (i, (key.now, value.now)) ≡ true → Called g f (key, (value, tt)) (tt, (left, tt)) f' → (f' ≡ f) × ((h (key.now, value.now)).0 ≡ key.now) × (left.now ≡ (h (key.now, value.now)).1))
