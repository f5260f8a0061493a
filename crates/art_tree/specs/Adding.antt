-- How a pair is added by its key.
use Rattle.std.specs.Prelude.{◌≡◌, ℕ, List, false, Some, None, Result, Ok, Err}
use Rattle.std.specs.declared.alloc.AllocError.{AllocError}
use Rattle.blart_keys.specs.Content.{conflict, stores}
use Rattle.blart_keys.specs.Steps.{bytes as pair_bytes, Puts}
use Rattle.art_tree.specs.Content.{Content}
use Rattle.art_tree.specs.Leaves.{leaf_in, OthersStand}
use Rattle.art_tree.specs.Pairs.{pairs_of}
use Rattle.art_tree.specs.Points.{IsGood}
use Rattle.art_tree.specs.declared.tree.add.Added.{Added}
use Rattle.art_tree.specs.declared.tree.add.Added.TheVariants.{Placed, Stored, Conflict}
use Rattle.art_tree.specs.declared.tree.point.Point.TheVariants.{Exact, Related}

-- the pair has a new id, and each other id has the pair that it had
pub record HasNew {K V : Type 0} (old new : Content K V) (x : K × V) : Type 0 where
  pub id : ℕ
  pub now : leaf_in new.pairs id ≡ Some x
  pub fresh : leaf_in old.pairs id ≡ None
  pub others : OthersStand old.pairs new.pairs id

-- the result of an addition of a pair
abbrev pub Adds : {K V : Type 0} → (K → List ℕ) → Content K V → Content K V → K × V → Result (Added ℕ K V) AllocError → Type 0
Adds key_bytes old new x (Ok Placed) = Puts key_bytes (λ pair. pair) (pairs_of old.pairs) x x (Ok None) (pairs_of new.pairs) × HasNew old new x
Adds key_bytes old new x (Ok (Stored id key value)) = IsGood key_bytes old.pairs (Exact id) (key_bytes x.0) × ((key, value) ≡ x) × (new ≡ old)
Adds key_bytes old new x (Ok (Conflict first key value)) = ((last : ℕ) × IsGood key_bytes old.pairs (Related first last) (key_bytes x.0)) × ((key, value) ≡ x) × (new ≡ old)
Adds key_bytes old new x (Err refused) =
    (conflict (pair_bytes key_bytes) (pairs_of old.pairs) (key_bytes x.0) ≡ false)
    × (stores (pair_bytes key_bytes) (pairs_of old.pairs) (key_bytes x.0) ≡ false)
    × (new.pairs ≡ old.pairs)
