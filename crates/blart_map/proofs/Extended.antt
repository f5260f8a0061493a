-- The clause of the language's `Extend`, from that of a call that takes the items of an iterator.
use Rattle.std.proofs.Common.{List, [], ◌∷◌, ◌++◌, Option, Result, Ok, Err, refl}
use Rattle.std.specs.Iterator.{Yields, ExtendsWithItems}
use Rattle.blart_map.specs.Bulk.{TakesItems}

-- if items were yielded, and one more, those before it were yielded
before_last : {I A : Type 0} (steps : I → Option A → I → Type 0) (s : I) (xs : List A) (x : A) (rest : I) → Yields steps s (xs ++ x ∷ []) rest → (t : I) × Yields steps s xs t
before_last steps s [] x rest h = (s, refl)
before_last steps s (y ∷ xs) x rest h =
    let front = before_last steps h.0 xs x rest h.2 in
    (front.0, (h.0, h.1, front.1))

-- a call that takes the items of the iterator that `iter` becomes extends the collection
pub extends_with : {U I A B E : Type 0} (becomes : U → I → Type 0) (steps : I → Option A → I → Type 0) (extends : B → List A → B → Type 0) (New : A → Type 0) (iter : U) (items : I) (old new : B) (r : Result (Unit {0}) E)
    → becomes iter items → TakesItems steps items r (λ xs. extends old xs new) New → ExtendsWithItems becomes steps extends iter old new r
extends_with becomes steps extends New iter items old new (Ok done) b h = (items, h.0, b, h.2, h.1)
extends_with becomes steps extends New iter items old new (Err e) b h = (items, h.0, b, h.4, before_last steps items h.0 h.1 h.2 h.3)
