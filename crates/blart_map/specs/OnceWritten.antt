-- What a map will be, once a walk has lent all values that it has left.
use Rattle.std.specs.Prelude.{ℕ, List, map, if◌then◌else◌, Bool}
use Rattle.blart_keys.specs.declared.AsBytes.{Ghosts}
use Rattle.art_walk.specs.Lent.{written_all}
use Rattle.blart_map.specs.Content.{pairs}
use Rattle.blart_map.specs.declared.walks.lending_walk.LendingWalk.{LendingWalk}
use Rattle.blart_map.specs.declared.walks.counted_walk.CountedWalk.{CountedWalk}
use Rattle.blart_map.specs.LendingWalk.{lending_left}
use Rattle.blart_map.specs.CountedWalk.{counted_left}

module _ {K V : Type 0} where
  -- the pairs, but each pair x that passes the test has the value `f x`
  abbrev pub rewritten : (K × V → Bool) → (K × V → V) → List (K × V) → List (K × V)
  rewritten test f S = map (λ x. if test x then (x.0, f x) else x) S

  -- the pairs, but each pair x has the value `f x`
  abbrev pub all_rewritten : (K × V → V) → List (K × V) → List (K × V)
  all_rewritten f S = map (λ x. (x.0, f x)) S

module _ {K V M : Type 0} {p : ℕ} {g : Ghosts K} where
  -- the pairs of the map, once each pair x that is still to be lent has the value `f x`
  abbrev pub once_written : (K × V → V) → LendingWalk K V M p g → List (K × V)
  once_written f s = pairs (written_all f (lending_left s) s.map.now)

  -- the same for a walk that counts
  abbrev pub all_once_written : (K × V → V) → CountedWalk K V M p g → List (K × V)
  all_once_written f s = pairs (written_all f (counted_left s) s.map.now)
