-- Mounts that lie in tables, in each of which no path is a prefix of another.
use Rattle.std.specs.Prelude.{◌≡◌, ℕ, List, [], ◌∷◌, length, flat_map, Vec, if◌then◌else◌}
use Rattle.std.specs.Global.{Global}
use Rattle.blart_map.specs.Content.{Numbered}
use Rattle.blart_keys.specs.Bytes.{less}
use Rattle.blart_keys.specs.KeyBytes.{vec_bytes}
use Rattle.blart_map.specs.Content.{pairs}

-- what a contract sees of `Routes`: the mounts in byte order, and the number of tables in which
-- they lie
pub record Nested (V : Type 0) : Type 0 where
  pub mounts : List (Vec ℕ Global × V)
  pub tables : ℕ

module _ {X : Type 0} (bytes : X → List ℕ) where
  -- x before the first item with greater bytes, and in place of an item with its bytes
  abbrev pub placed : X → List X → List X
  placed x [] = x ∷ []
  placed x (y ∷ S) = if less (bytes x) (bytes y) then x ∷ y ∷ S else if less (bytes y) (bytes x) then y ∷ placed x S else x ∷ S

  -- the items in byte order; of items with the same bytes the first one
  abbrev pub in_byte_order : List X → List X
  in_byte_order [] = []
  in_byte_order (x ∷ S) = placed x (in_byte_order S)

-- the mounts of all tables, one table after the other
abbrev pub all_mounts : {V : Type 0} → List (List (Numbered (Vec ℕ Global) V)) → List (Vec ℕ Global × V)
all_mounts tables = flat_map pairs tables

-- the mounts of all tables, in byte order; it stays closed in proofs
unfoldable pub mounts_of : {V : Type 0} → List (List (Numbered (Vec ℕ Global) V)) → List (Vec ℕ Global × V)
mounts_of tables = in_byte_order (λ p. vec_bytes p.0) (all_mounts tables)

-- n mounts are in the tables, and no two of them have the same path
pub record AreCounted {V : Type 0} (tables : List (List (Numbered (Vec ℕ Global) V))) (n : ℕ) : Type 0 where
  pub all : n ≡ length (all_mounts tables)
  pub distinct : n ≡ length (mounts_of tables)
