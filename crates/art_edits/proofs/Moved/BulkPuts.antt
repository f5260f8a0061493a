-- Pairs put one after another.
use Rattle.std.proofs.Common.{◌≡◌, ◌≢◌, ◌∙◌, ℕ, List, [], ◌∷◌, ◌++◌, Option, Some, refl, sym, subst, map-id, Result, Ok, Err, IfOk, OnErr}
use Rattle.std.specs.Iterator.{Yields, Drains}
use Rattle.std.proofs.lemmas.Iterator.{YieldsList, items_from_drains}
use Rattle.blart_keys.specs.Bulk.{PutsAll}
use Rattle.blart_keys.specs.Content.{at, IsPut}

-- one more item is put
pub puts_more : {X : Type 0} (bytes : X → List ℕ) (keep : Option X → X → X) (S : List X) (xs : List X) (T : List X) (x : X) (U : List X) → PutsAll bytes keep S xs T → IsPut bytes T (keep (at bytes T (bytes x)) x) U → PutsAll bytes keep S (xs ++ x ∷ []) U
puts_more bytes keep S [] T x U h put = (U, subst (λ R. IsPut bytes R (keep (at bytes R (bytes x)) x) U) h put, refl)
puts_more bytes keep S (y ∷ xs) T x U h put = (h.0, h.1, puts_more bytes keep h.0 xs T x U h.2 put)

-- if items were yielded, and one more, a first item was yielded
pub first_came : {I A : Type 0} (steps : I → Option A → I → Type 0) (s : I) (xs : List A) (x : A) (rest : I) → Yields steps s (xs ++ x ∷ []) rest → (y : A) × (t : I) × steps s (Some y) t
first_came steps s [] x rest h = (x, h.0, h.1)
first_came steps s (y ∷ xs) x rest h = (y, h.0, h.1)

-- if the yielded items are not empty, a first item was yielded
some_came : {I A : Type 0} (steps : I → Option A → I → Type 0) (s : I) (xs : List A) (t : I) → Yields steps s xs t → xs ≢ [] → (y : A) × (u : I) × steps s (Some y) u
some_came steps s [] t h ne = absurd (ne refl)
some_came steps s (y ∷ ys) t h ne = (y, h.0, h.1)

-- if an error says that there were items, a first item was yielded
pub refused_some : {I A B E : Type 0} (steps : I → Option A → I → Type 0) (s : I) (xs : List A) (t : I) (ys : List A) (r : Result B E) → Yields steps s xs t → ys ≡ xs → OnErr r (ys ≢ []) → OnErr r ((y : A) × (u : I) × steps s (Some y) u)
refused_some steps s xs t ys (Ok b) h e some = some
refused_some steps s xs t ys (Err x) h e some = some_came steps s xs t h (λ none. some (e ∙ none))

-- if the list is unchanged, the same items were put
pub puts_same : {X : Type 0} (bytes : X → List ℕ) (keep : Option X → X → X) (S : List X) (xs : List X) (T U : List X) → PutsAll bytes keep S xs T → U ≡ T → PutsAll bytes keep S xs U
puts_same bytes keep S xs T U h e = subst (PutsAll bytes keep S xs) (sym e) h

-- what holds of the items that were drained holds of all items
pub of_all : {S A : Type 0} {steps : S → Option A → S → Type 0} {s : S} {all : List A} → YieldsList steps (λ y. y) s all → (P : List A → Type 0) → (xs : List A) × Drains steps s xs × P xs → P all
of_all e P d = subst P (sym (map-id d.0) ∙ items_from_drains d.0 (d.1.1.0, d.1.1.1, λ _. (d.1.0, d.1.1.2)) e) d.2

-- if P implies Q, then `IfOk r P` implies `IfOk r Q`
pub on_ok : {A E : Type 0} {P Q : A → Type 0} (r : Result A E) → ((a : A) → P a → Q a) → IfOk r P → IfOk r Q
on_ok (Ok a) f p = f a p
on_ok (Err e) f p = p
