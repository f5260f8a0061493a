-- What contracts see of a walk that lends values and may take their pairs.
use Rattle.std.specs.Prelude.{◌≡◌, ℕ, List, [], Option}
use Rattle.std.specs.Option.{ForSome, ForNone}
use Rattle.std.specs.Borrow.{Fml, RattleType, Bor, MutBor, Lends, LendsSo}
use mir.Syntax.{named}
use Rattle.blart_keys.specs.declared.AsBytes.{Ghosts}
use Rattle.art_tree.specs.Leaves.{Numbered}
use Rattle.art_walk.specs.Cursor.{leaves_left}
use Rattle.art_walk.specs.Lent.{written_last, fits_written}
-- what is true once a loan ends: which pair was lent, and which are left
pub use Rattle.art_walk.specs.Lent.{LentFirst, LentLast, NoneLent}
use Rattle.blart_map.specs.declared.walks.take_walk.TakeWalk.{TakeWalk}
use Rattle.blart_map.specs.contracts.walks.take_walk.TakeWalk.{the_row}

-- the reference to the map
abbrev pub take_map : {K V : Type 0} {p : ℕ} {g : Ghosts K} → TakeWalk K V p g → MutBor (List (Numbered K V))
take_map s = s.map

-- the number of the pair that is lent, and neither kept nor taken so far, if one is
abbrev pub take_undecided : {K V : Type 0} {p : ℕ} {g : Ghosts K} → TakeWalk K V p g → Option ℕ
take_undecided s = s.lent

-- the pairs that are still to be lent
abbrev pub take_left : {K V : Type 0} {p : ℕ} {g : Ghosts K} → TakeWalk K V p g → List (Numbered K V)
take_left s = leaves_left s.cursor s.map.now

-- the walk, once the lent pair has the value w
abbrev pub take_with : {K V : Type 0} {p : ℕ} {g : Ghosts K} → TakeWalk K V p g → V → TakeWalk K V p g
take_with s w = record {
  map = record s.map { now = written_last s.lent s.map.now w };
  cursor = s.cursor;
  lent = s.lent;
  fits = fits_written s.cursor s.lent s.map.now w s.fits;
}

module _ (K V P : RattleType) (g : Ghosts K.Denot) where
  abbrev pub walk_row : RattleType
  walk_row = the_row (record { mir = named 1; lft = [] }) K V P g

  -- once the borrow r ends, the first pair that was left has the last value written through r
  abbrev pub lends_first : MutBor walk_row.Denot → Option (MutBor V.Denot) → Fml
  lends_first s r =
      LendsSo walk_row V s r
      (λ n w. ForSome r (λ x. (n.map.ghost_name ≡ s.now.map.ghost_name) × LentFirst s.now.map.now n.map.now (take_left s.now) (take_left n) n.lent x.now w))
      (λ n. ForNone r ((n.map.ghost_name ≡ s.now.map.ghost_name) × NoneLent s.now.map.now n.map.now (take_left s.now) (take_left n) s.now.lent n.lent))

  -- the same for the last pair
  abbrev pub lends_last : MutBor walk_row.Denot → Option (MutBor V.Denot) → Fml
  lends_last s r =
      LendsSo walk_row V s r
      (λ n w. ForSome r (λ x. (n.map.ghost_name ≡ s.now.map.ghost_name) × LentLast s.now.map.now n.map.now (take_left s.now) (take_left n) n.lent x.now w))
      (λ n. ForNone r ((n.map.ghost_name ≡ s.now.map.ghost_name) × NoneLent s.now.map.now n.map.now (take_left s.now) (take_left n) s.now.lent n.lent))

  -- once the borrow r.1 ends, the lent pair has the last value written through it
  abbrev pub lends_pair : MutBor walk_row.Denot → Bor K.Denot × MutBor V.Denot → Fml
  lends_pair s r = Lends walk_row V s r.1 (take_with s.now)
