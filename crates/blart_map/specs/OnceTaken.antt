-- What a map will be, once a walk has taken the pairs that pass a test.
use Rattle.std.specs.Prelude.{ℕ, List, [], ◌∷◌, filter, Bool, if◌then◌else◌}
use Rattle.blart_keys.specs.declared.AsBytes.{Ghosts}
use Rattle.art_tree.specs.Leaves.{Numbered, without_number}
use Rattle.blart_map.specs.Content.{pairs}
use Rattle.blart_map.specs.declared.walks.extract_if.ExtractIf.{ExtractIf}
use Rattle.blart_map.specs.declared.walks.take_walk.TakeWalk.{TakeWalk}
use Rattle.blart_map.specs.ExtractIf.{extract_left}
use Rattle.blart_map.specs.TakeWalk.{take_left}

module _ {K V : Type 0} where
  -- the list, once the pairs that are left and pass the test are taken
  abbrev pub taken_all : (K × V → Bool) → List (Numbered K V) → List (Numbered K V) → List (Numbered K V)
  taken_all test [] ps = ps
  taken_all test (p ∷ left) ps = taken_all test left (if test p.1 then without_number ps p.0 else ps)

module _ {K V : Type 0} {p : ℕ} {g : Ghosts K} where
  -- the pairs of the map, once the pairs that are still to be lent and pass the test are taken
  abbrev pub once_taken : (K × V → Bool) → TakeWalk K V p g → List (K × V)
  once_taken test s = pairs (taken_all test (take_left s) s.map.now)

  -- the pairs that are still to be lent and pass the test
  abbrev pub still_to_take : (K × V → Bool) → TakeWalk K V p g → List (K × V)
  still_to_take test s = filter test (pairs (take_left s))

module _ {K V F : Type 0} {p : ℕ} {g : Ghosts K} where
  -- the pairs of the map, once those that the walk has left and that pass the test are extracted
  abbrev pub once_extracted : (K × V → Bool) → ExtractIf K V F p g → List (K × V)
  once_extracted test s = pairs (taken_all test (extract_left s) s.map.now)

  -- the pairs that the walk has left and that pass the test
  abbrev pub still_to_extract : (K × V → Bool) → ExtractIf K V F p g → List (K × V)
  still_to_extract test s = filter test (pairs (extract_left s))
