-- What contracts see of a walk over some pairs of a map that lends their values.
use Rattle.std.specs.Prelude.{◌≡◌, ℕ, List, [], Option, Bool, filter}
use Rattle.std.specs.Option.{ForSome, ForNone}
use Rattle.std.specs.Borrow.{Fml, RattleType, Bor, MutBor, Lends, LendsSo}
use mir.Syntax.{named}
use Rattle.blart_keys.specs.declared.AsBytes.{Ghosts}
use Rattle.art_tree.specs.Leaves.{Numbered}
use Rattle.art_walk.specs.Cursor.{leaves_left}
use Rattle.art_walk.specs.Lent.{LentFirst, LentLast, NoneLent, written_last, fits_written}
use Rattle.blart_map.specs.declared.walks.lending_walk.LendingWalk.{LendingWalk}
use Rattle.blart_map.specs.contracts.walks.lending_walk.LendingWalk.{the_row}

-- the reference to the map
abbrev pub lending_map : {K V M : Type 0} {p : ℕ} {g : Ghosts K} → LendingWalk K V M p g → MutBor (List (Numbered K V))
lending_map s = s.map

-- the number of the pair that was lent last, if one was
abbrev pub lending_last : {K V M : Type 0} {p : ℕ} {g : Ghosts K} → LendingWalk K V M p g → Option ℕ
lending_last s = s.lent

-- the pairs whose values are still to be lent
abbrev pub lending_left : {K V M : Type 0} {p : ℕ} {g : Ghosts K} → LendingWalk K V M p g → List (Numbered K V)
lending_left s = leaves_left s.cursor s.map.now

-- the map holds S, and the values of its pairs that pass the test are still to be lent
abbrev pub LendsWhere : {K V M : Type 0} {p : ℕ} {g : Ghosts K} → LendingWalk K V M p g → (K × V → Bool) → List (Numbered K V) → Type 0
LendsWhere s test S = (s.map.now ≡ S) × (lending_left s ≡ filter (λ p. test p.1) S)

-- the walk, once the pair lent last has the value w
abbrev pub lending_with : {K V M : Type 0} {p : ℕ} {g : Ghosts K} → LendingWalk K V M p g → V → LendingWalk K V M p g
lending_with s w = record {
  map = record s.map { now = written_last s.lent s.map.now w };
  cursor = s.cursor;
  lent = s.lent;
  kind = s.kind;
  fits = fits_written s.cursor s.lent s.map.now w s.fits;
}

module _ (K V M P : RattleType) (g : Ghosts K.Denot) where
  abbrev pub walk_row : RattleType
  walk_row = the_row (record { mir = named 1; lft = [] }) K V M P g

  -- once the borrow r ends, the first pair that was left has the last value written through r
  abbrev pub lends_first : MutBor walk_row.Denot → Option (MutBor V.Denot) → Fml
  lends_first s r =
      LendsSo walk_row V s r
      (λ n w. ForSome r (λ x. (n.map.ghost_name ≡ s.now.map.ghost_name) × LentFirst s.now.map.now n.map.now (lending_left s.now) (lending_left n) n.lent x.now w))
      (λ n. ForNone r ((n.map.ghost_name ≡ s.now.map.ghost_name) × NoneLent s.now.map.now n.map.now (lending_left s.now) (lending_left n) s.now.lent n.lent))

  -- the same for the last pair
  abbrev pub lends_last : MutBor walk_row.Denot → Option (MutBor V.Denot) → Fml
  lends_last s r =
      LendsSo walk_row V s r
      (λ n w. ForSome r (λ x. (n.map.ghost_name ≡ s.now.map.ghost_name) × LentLast s.now.map.now n.map.now (lending_left s.now) (lending_left n) n.lent x.now w))
      (λ n. ForNone r ((n.map.ghost_name ≡ s.now.map.ghost_name) × NoneLent s.now.map.now n.map.now (lending_left s.now) (lending_left n) s.now.lent n.lent))

  -- once the borrow r.1 ends, the pair lent last has the last value written through it
  abbrev pub lends_pair : MutBor walk_row.Denot → Bor K.Denot × MutBor V.Denot → Fml
  lends_pair s r = Lends walk_row V s r.1 (lending_with s.now)
