-- What the contracts of a walk that extracts cite.
use Rattle.std.specs.Prelude.{◌≡◌, ℕ, List, Option, Bool, reverse}
use Rattle.std.specs.Borrow.{Bor, MutBor}
use Rattle.std.specs.Map.Calls.{CallableOnEachPair, CalledAtPair, TakesPair}
use denote.Param.Members.{Mut}
use Rattle.blart_keys.specs.declared.AsBytes.{Ghosts}
use Rattle.art_tree.specs.Leaves.{Numbered}
use Rattle.art_tree.specs.Pairs.{pairs_of}
use Rattle.art_walk.specs.Cursor.{leaves_left}
-- the state of such a walk, and which pair it extracts
pub use Rattle.art_walk.specs.Extracting.{Extraction, stands_at, ExtractsFirstTrue}
use Rattle.blart_map.specs.declared.walks.extract_if.ExtractIf.{ExtractIf}

-- the reference to the map
abbrev pub extract_map : {K V F : Type 0} {p : ℕ} {g : Ghosts K} → ExtractIf K V F p g → MutBor (List (Numbered K V))
extract_map s = s.map

-- the closure, as the calls so far have left it
abbrev pub extract_pred : {K V F : Type 0} {p : ℕ} {g : Ghosts K} → ExtractIf K V F p g → F
extract_pred s = s.pred

-- the pairs on which the closure may still be called
abbrev pub extract_left : {K V F : Type 0} {p : ℕ} {g : Ghosts K} → ExtractIf K V F p g → List (Numbered K V)
extract_left s = leaves_left s.cursor s.map.now

module _ {K V F : Type 0} {p : ℕ} {k : Ghosts K} (g : Mut F (Bor K × (MutBor V × Unit {0})) (Bool × (MutBor V × Unit {0}))) where
  -- the closure may be called on each pair that is left, from the first on
  abbrev pub CanExtract : ExtractIf K V F p k → Type 0
  CanExtract s = CallableOnEachPair (CalledAtPair g) (TakesPair g) s.pred (pairs_of (extract_left s))

  -- and from the last on
  abbrev pub CanExtractBack : ExtractIf K V F p k → Type 0
  CanExtractBack s = CallableOnEachPair (CalledAtPair g) (TakesPair g) s.pred (pairs_of (reverse (extract_left s)))

  -- one `next`
  abbrev pub ExtractsNext : ExtractIf K V F p k → Option (K × V) → ExtractIf K V F p k → Type 0
  ExtractsNext s result t = (t.map.ghost_name ≡ s.map.ghost_name) × ExtractsFirstTrue g (stands_at s.map.now s.pred (extract_left s)) result (stands_at t.map.now t.pred (extract_left t))

  -- one `next_back`, which calls the closure from the last pair on
  abbrev pub ExtractsNextBack : ExtractIf K V F p k → Option (K × V) → ExtractIf K V F p k → Type 0
  ExtractsNextBack s result t = (t.map.ghost_name ≡ s.map.ghost_name) × ExtractsFirstTrue g (stands_at s.map.now s.pred (reverse (extract_left s))) result (stands_at t.map.now t.pred (reverse (extract_left t)))
