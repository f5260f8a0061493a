-- One pair on which a closure is called, in a walk that extracts.
use Rattle.std.proofs.Common.{◌≡◌, ℕ, ◌<◌, ◌≤◌, List, length, Option, Some, Bool, true, false, refl, sym, ◌∙◌, ap, subst, arith}
use Rattle.std.specs.Borrow.{Bor, MutBor}
use Rattle.std.specs.Map.Calls.{CalledAtPair}
use denote.Param.Members.{Mut}
use Rattle.art_tree.specs.Leaves.{Numbered, leaf_in, AreDistinct, with_value, without_number}
use Rattle.art_tree.specs.Pairs.{pairs_of}
use Rattle.art_walk.specs.declared.cursor.Cursor.{Cursor}
use Rattle.art_walk.specs.Cursor.{leaves_left, FitsIn}
use Rattle.art_walk.specs.Extracting.{Extraction, ExtractsFirstTrue, stands_at}
use Rattle.art_walk.proofs.Passing.{in_turn, Passed, same_written, named_written, is_removed, same_removed, fewer_left}
use Rattle.art_walk.proofs.Callable.{Callable, callable_left}

module _ {K V F : Type 0} (g : Mut F (Bor K × (MutBor V × Unit {0})) (Bool × (MutBor V × Unit {0}))) where
  -- a walk from the front, or from the back, in which the closure has only returned false: what it
  -- extracts from here on, it extracts from the start on, when `count` pairs were left
  pub record Extracting (is_front : Bool) (start : Extraction K V F) (count : ℕ) (ps : List (Numbered K V)) (c : Cursor) (f : F) : Type 0 where
    pub callable : Callable g f (pairs_of (in_turn is_front (leaves_left c ps)))
    pub fits : FitsIn c ps
    pub distinct : AreDistinct ps
    pub fewer : length (leaves_left c ps) ≤ count
    pub extracts : (r : Option (K × V)) (t : Extraction K V F) → ExtractsFirstTrue g (stands_at ps f (in_turn is_front (leaves_left c ps))) r t → ExtractsFirstTrue g start r t

  module _ {is_front : Bool} {start : Extraction K V F} {count : ℕ} {ps : List (Numbered K V)} {old new : Cursor} {id : ℕ} {y : K × V} {f : F} (e : Extracting is_front start count ps old f) (p : Passed is_front ps old new id y) (b : Bool) (w : V) (h : F) (called : CalledAtPair g f y.0 y.1 b w h) where
    -- the closure returned false, so the pair remains
    pub extracting_left : b ≡ false → Extracting is_front start count (with_value ps id w) new h
    extracting_left said =
        let s = same_written p w in
        record {
          callable = callable_left g p f e.callable b w h called s;
          fits = s.fits;
          distinct = s.distinct;
          fewer = omega (arith, fewer_left p s, e.fewer);
          extracts = λ r t a.
              let rest = subst (λ (l : List (Numbered K V)). ExtractsFirstTrue g (stands_at (with_value ps id w) h (in_turn is_front l)) r t) s.same a in
              e.extracts r t (subst (λ (l : List (Numbered K V)). ExtractsFirstTrue g (stands_at ps f l) r t) (sym p.turned) (b, w, h, p.named, called, rw said rest));
        }

    -- it returned true, so the pair is the result
    pub extracted : b ≡ true → (r : K × V) → leaf_in (with_value ps id w) id ≡ Some r → (rs : List (Numbered K V)) → rs ≡ without_number (with_value ps id w) id → record {
      fits : FitsIn new rs;
      extracts : ExtractsFirstTrue g start (Some r) (stands_at rs h (in_turn is_front (leaves_left new rs)));
      callable : Callable g h (pairs_of (in_turn is_front (leaves_left new rs)));
      fewer : length (leaves_left new rs) < count;
    }
    extracted said r value rs gone =
        let s = same_removed p w rs gone in
        let t = stands_at rs h (in_turn is_front (leaves_left new rs)) in
        record {
          fits = s.fits;
          extracts = e.extracts (Some r) t (subst (λ (l : List (Numbered K V)). ExtractsFirstTrue g (stands_at ps f l) (Some r) t) (sym p.turned)
              (b, w, h, p.named, called, rw said (sym value ∙ named_written p w, is_removed p w rs gone, refl, ap (in_turn is_front) s.same)));
          callable = callable_left g p f e.callable b w h called s;
          fewer = omega (arith, fewer_left p s, e.fewer);
        }
