-- A walk, once the pair lent last is written.
use Rattle.std.proofs.Common.{◌≡◌, ℕ, List, Option, Bool, Some, true, sym, ap, subst}
use Rattle.std.specs.Prelude.{MatchOption, ⊤}
use mathlib.Core.Bool.{Bool-set}
use Rattle.blart_keys.specs.declared.AsBytes.{Ghosts}
use Rattle.art_tree.specs.Leaves.{Numbered, leaf_in}
use Rattle.art_walk.specs.Lent.{walk_fits, count_fits, numbers, written_last}
use Rattle.blart_map.specs.declared.walks.counted_walk.CountedWalk.{CountedWalk}
use Rattle.blart_map.specs.declared.walks.lending_walk.LendingWalk.{LendingWalk}
use Rattle.blart_map.specs.declared.walks.take_walk.TakeWalk.{TakeWalk}
use Rattle.blart_map.specs.CountedWalk.{counted_with}
use Rattle.blart_map.specs.LendingWalk.{lending_with}
use Rattle.blart_map.specs.TakeWalk.{take_with}

-- the pair of this number is the pair lent last
pub pair_there : {K V : Type 0} (lent : Option ℕ) (ps : List (Numbered K V)) (id : ℕ) (x : K × V) → lent ≡ Some id → leaf_in ps id ≡ Some x → MatchOption lent ⊤ (λ n. leaf_in ps n ≡ Some x)
pair_there lent ps id x e h = subst (λ o. MatchOption o ⊤ (λ n. leaf_in ps n ≡ Some x)) (sym e) h

-- two walks that are made of the same list, which passes a test, are the same
same_made : {A W : Type 0} (test : A → Bool) (made : (c : A) → test c ≡ true → W) (c d : A) → c ≡ d → (f : test c ≡ true) (h : test d ≡ true) → made c f ≡ made d h
same_made test made c d e f h = subst (λ c. (f : test c ≡ true) → made c f ≡ made d h) (sym e) (λ f. ap (made d) (Bool-set _ true f h)) f

module _ {K V : Type 0} {p : ℕ} {g : Ghosts K} where
  module _ {M : Type 0} (s : LendingWalk K V M p g) where
    abbrev lending_of : (c : List (Numbered K V)) → walk_fits s.cursor s.lent (numbers c) ≡ true → LendingWalk K V M p g
    lending_of c f = record { map = record s.map { now = c }; cursor = s.cursor; lent = s.lent; kind = s.kind; fits = f }

    pub same_lending : (w : V) (c : List (Numbered K V)) → c ≡ written_last s.lent s.map.now w → (f : walk_fits s.cursor s.lent (numbers c) ≡ true) → lending_of c f ≡ lending_with s w
    same_lending w c e f = same_made _ lending_of c _ e f (lending_with s w).fits

  -- the same for a walk that counts
  module _ {M : Type 0} (s : CountedWalk K V M p g) where
    abbrev counted_of : (c : List (Numbered K V)) → count_fits s.cursor s.lent s.left (numbers c) ≡ true → CountedWalk K V M p g
    counted_of c f = record { map = record s.map { now = c }; cursor = s.cursor; lent = s.lent; left = s.left; kind = s.kind; fits = f }

    pub same_counted : (w : V) (c : List (Numbered K V)) → c ≡ written_last s.lent s.map.now w → (f : count_fits s.cursor s.lent s.left (numbers c) ≡ true) → counted_of c f ≡ counted_with s w
    same_counted w c e f = same_made _ counted_of c _ e f (counted_with s w).fits

  -- and for a walk that may take pairs
  module _ (s : TakeWalk K V p g) where
    abbrev take_of : (c : List (Numbered K V)) → walk_fits s.cursor s.lent (numbers c) ≡ true → TakeWalk K V p g
    take_of c f = record { map = record s.map { now = c }; cursor = s.cursor; lent = s.lent; fits = f }

    pub same_take : (w : V) (c : List (Numbered K V)) → c ≡ written_last s.lent s.map.now w → (f : walk_fits s.cursor s.lent (numbers c) ≡ true) → take_of c f ≡ take_with s w
    same_take w c e f = same_made _ take_of c _ e f (take_with s w).fits
