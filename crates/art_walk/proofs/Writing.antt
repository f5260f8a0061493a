-- A closure is called on each value that a cursor has left, one call after another.
use Rattle.std.proofs.Common.{◌≡◌, ℕ, true, List, [], ◌∷◌, refl, sym, ap, ◌∙◌, subst}
use Rattle.std.specs.Borrow.{Bor, MutBor}
use denote.Param.Members.{Mut, Called}
use Rattle.art_tree.specs.Leaves.{Numbered, with_value}
use Rattle.art_tree.specs.Pairs.{pairs_of}
use Rattle.art_walk.specs.declared.cursor.Cursor.{Cursor}
use Rattle.art_walk.specs.Cursor.{leaves_left}
use Rattle.art_walk.specs.EachWritten.{CallableInTurn, WritesLeft, LeavesValue, LeavesPair}
use Rattle.art_walk.proofs.Passing.{Passed, same_written}

module _ {F K V : Type 0} (R : F → K × V → V → F → Type 0) (Q : F → K × V → Type 0) where
  module _ {ps : List (Numbered K V)} {old new : Cursor} {id : ℕ} {y : K × V} (p : Passed true ps old new id y) (f : F) (can : CallableInTurn R Q f (pairs_of (leaves_left old ps))) where
    -- it may be called on the pair that was passed
    pub callable_passed : Q f y
    callable_passed = can.at [] (pairs_of (leaves_left new ps)) f y (ap pairs_of p.splits) refl

    -- and then on the others, in the state that this call left
    pub callable_left : (w : V) (h : F) → R f y w h → CallableInTurn R Q h (pairs_of (leaves_left new (with_value ps id w)))
    callable_left w h call = record { at = λ before after f' x e r. can.at (y ∷ before) after f' x (ap pairs_of p.splits ∙ ap (λ l. y ∷ l) (ap pairs_of (sym (same_written p w).same) ∙ e)) (h, (w, call), r) }

module _ {F K V : Type 0} (R : F → K × V → V → F → Type 0) where
  -- if the rest is written from here on, all is written as it was to be from the start
  pub record Writing (first from : List (Numbered K V)) (start : F) (left ps : List (Numbered K V)) (f : F) : Type 0 where
    pub then : (new : List (Numbered K V)) → WritesLeft R left ps f new → WritesLeft R first from start new

  pub writing_start : (left ps : List (Numbered K V)) (f : F) → Writing left ps f left ps f
  writing_start left ps f = record { then = λ new r. r }

  module _ (first from : List (Numbered K V)) (start : F) (left ps : List (Numbered K V)) (f : F) (o : Writing first from start left ps f) where
    pub writing_end : left ≡ [] → WritesLeft R first from start ps
    writing_end e = o.then ps (subst (λ (l : List (Numbered K V)). WritesLeft R l ps f ps) (sym e) (record { values = []; after = f; called = refl; written = refl }))

  pub writing_step : {first from : List (Numbered K V)} {start : F} {ps : List (Numbered K V)} {old new : Cursor} {id : ℕ} {y : K × V} {f : F} → Writing first from start (leaves_left old ps) ps f → Passed true ps old new id y → (w : V) (h : F) → R f y w h → Writing first from start (leaves_left new (with_value ps id w)) (with_value ps id w) h
  writing_step {ps} {new} {id} {f} o p w h call = record {
    then = λ all r.
        let r' = subst (λ (l : List (Numbered K V)). WritesLeft R l (with_value ps id w) h all) (same_written p w).same r in
        o.then all (subst (λ (l : List (Numbered K V)). WritesLeft R l ps f all) (sym p.splits) (record {
          values = w ∷ r'.values;
          after = r'.after;
          called = (h, call, r'.called);
          written = r'.written;
        }));
  }

-- ---- the closure's call

module _ {F K V : Type 0} (g : Mut F (MutBor V × Unit {0}) (Unit {0} × (MutBor V × Unit {0}))) where
  pub leaves_value : (f f' : F) (y : K × V) (value left : MutBor V) → Called g f (value, tt) (tt, (left, tt)) f' → value.now ≡ y.1 → LeavesValue g f y left.now f'
  leaves_value f f' y value left m e = record { value = value; shows = e; left = left; called = m; leaves = refl }

module _ {F K V : Type 0} (g : Mut F (Bor K × (MutBor V × Unit {0})) (Unit {0} × (MutBor V × Unit {0}))) where
  pub leaves_pair : (f f' : F) (y : K × V) (key : Bor K) (value left : MutBor V) → Called g f (key, (value, tt)) (tt, (left, tt)) f' → key.now ≡ y.0 → value.now ≡ y.1 → LeavesPair g f y left.now f'
  leaves_pair f f' y key value left m k e = record { key = key; value = value; shows = (k, e); left = left; called = m; leaves = refl }
