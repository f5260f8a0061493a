-- A closure that may be called on each pair of a list, in turn.
use Rattle.std.proofs.Common.{◌∙◌, ℕ, List, [], ◌∷◌, ◌++◌, Bool, refl, sym, ap, subst}
use Rattle.std.specs.Borrow.{Bor, MutBor}
use Rattle.std.proofs.lemmas.List.Elements.{All-head, All-tail}
use Rattle.std.specs.List.{All, FoldsTo}
use Rattle.std.specs.Map.Calls.{CallableOnEachPair, CalledAtPair, SomeCallAtPair, TakesPair}
use denote.Param.Members.{Mut, Called}
use denote.Param.Always.{always_mut, mut_next}
use Rattle.art_tree.specs.Leaves.{Numbered}
use Rattle.art_tree.specs.Pairs.{pairs_of}
use Rattle.art_walk.specs.declared.cursor.Cursor.{Cursor}
use Rattle.art_walk.specs.Cursor.{leaves_left}
use Rattle.art_walk.proofs.Passing.{in_turn, Passed, SameLeft}

-- a fact that holds of all items holds of the one in the middle
pub middle : {X : Type 0} (P : X → Type 0) (before after : List X) (x : X) → All P (before ++ x ∷ after) → P x
middle P [] after x h = All-head P x after h
middle P (y ∷ before) after x h = middle P before after x (All-tail P y (before ++ x ∷ after) h)

module _ {F K V : Type 0} (g : Mut F (Bor K × (MutBor V × Unit {0})) (Bool × (MutBor V × Unit {0}))) where
  abbrev pub Callable : F → List (K × V) → Type 0
  Callable = CallableOnEachPair (CalledAtPair g) (TakesPair g)

  -- a call on the pair to which two references point
  pub called_at : (f : F) (key : Bor K) (value left : MutBor V) (b : Bool) (f' : F) → Called g f (key, (value, tt)) (b, (left, tt)) f' → CalledAtPair g f key.now value.now b left.now f'
  called_at f key value left b f' m = record { key = key; value = value; shows = (refl, refl); left = left; called = m; leaves = refl }

  module _ {is_front : Bool} {ps : List (Numbered K V)} {old new : Cursor} {id : ℕ} {y : K × V} (p : Passed is_front ps old new id y) (f : F) (can : Callable f (pairs_of (in_turn is_front (leaves_left old ps)))) where
    -- the closure may be called on the pair that was passed
    pub callable_passed : TakesPair g f y.0 y.1
    callable_passed = can.at [] (pairs_of (in_turn is_front (leaves_left new ps))) f y.0 y.1 (ap pairs_of p.turned) refl

    -- and then on the others, in the state that this call left
    pub callable_left : (b : Bool) (w : V) (h : F) → CalledAtPair g f y.0 y.1 b w h → {qs : List (Numbered K V)} → SameLeft ps new qs → Callable h (pairs_of (in_turn is_front (leaves_left new qs)))
    callable_left b w h call s = record {
      at = λ before after f' k v e r. can.at (y ∷ before) after f' k v (ap pairs_of p.turned ∙ ap (λ l. y ∷ l) (ap (λ l. pairs_of (in_turn is_front l)) (sym s.same) ∙ e)) (h, (b, w, call), r);
    }

  still : (before : List (K × V)) (f f' : F) → FoldsTo (SomeCallAtPair (CalledAtPair g)) f before f' → always_mut g f → always_mut g f'
  still [] f f' e h = subst (always_mut g) e h
  still (p ∷ before) f f' r h = still before r.0 f' r.2 (mut_next g f _ _ _ _ r.1.2.called refl h)

  -- a closure that may always be called
  pub callable_on_each_pair : (f : F) (ps : List (K × V)) → always_mut g f → Callable f ps
  callable_on_each_pair f ps h = record { at = λ before after f' k v e r p q hp hq. ((still before f f' r h).at ((p, (q, tt)) ∷ [])).0 }

  -- a closure that may be called in any state on a pair for which P holds, if P holds for all pairs
  pub callable_on_such_pairs : (P : K × V → Type 0) → ((f : F) (k : K) (v : V) → P (k, v) → TakesPair g f k v) → (f : F) (ps : List (K × V)) → All P ps → Callable f ps
  callable_on_such_pairs P takes f ps all = record { at = λ before after f' k v e r. takes f' k v (middle P before after (k, v) (subst (All P) e all)) }
