-- Contents: lists of items that ascend by their bytes. No item's bytes are a prefix of another's.
use Rattle.std.specs.Prelude.{◌≡◌, ◌≢◌, ℕ, Bool, true, false, ◌&&◌, not, List, Option, find, filter, AllPairs, Contains, ◌↔◌, bytes_eq}
use Rattle.std.specs.List.{list_any}
use Rattle.std.specs.declared.ops.Bound.{Bound}
use Rattle.blart_keys.specs.Bytes.{begins, related, less, conflicts}
use Rattle.blart_keys.specs.Bounds.{is_from_start, is_up_to_end}

-- Items of any type, each with its bytes: keys, pairs of a key and a value, and pairs under a
-- number.
module _ {X : Type 0} (bytes : X → List ℕ) where
  -- each item's bytes are less than those of each later one
  abbrev pub Ascends : List X → Type 0
  Ascends S = AllPairs (λ x y. less (bytes x) (bytes y) ≡ true) S

  -- the items ascend, and no two of them are related
  pub record IsContent (S : List X) : Type 0 where
    pub ascends : Ascends S
    pub unrelated : AllPairs (λ x y. related (bytes x) (bytes y) ≡ false) S

  -- the item with the bytes q
  abbrev pub at : List X → List ℕ → Option X
  at S q = find (λ x. bytes_eq (bytes x) q) S

  -- some item has the bytes q
  abbrev pub stores : List X → List ℕ → Bool
  stores S q = list_any (λ x. bytes_eq (bytes x) q) S

  -- the item whose bytes are a prefix of q
  abbrev pub front_of : List X → List ℕ → Option X
  front_of S q = find (λ x. begins (bytes x) q) S

  -- the items whose bytes begin with p
  abbrev pub under : List X → List ℕ → List X
  under S p = filter (λ x. begins p (bytes x)) S

  -- the items within both bounds
  abbrev pub between : List X → Bound (List ℕ) → Bound (List ℕ) → List X
  between S lo hi = filter (λ x. is_from_start lo (bytes x) && is_up_to_end hi (bytes x)) S

  -- some item is related to q and has other bytes
  abbrev pub conflict : List X → List ℕ → Bool
  conflict S q = list_any (λ x. conflicts (bytes x) q) S

  -- the items related to q
  abbrev pub subtree : List X → List ℕ → List X
  subtree S q = filter (λ x. related (bytes x) q) S

  -- the items with other bytes than q
  abbrev pub without : List X → List ℕ → List X
  without S q = filter (λ x. not (bytes_eq (bytes x) q)) S

  -- S' is the content that has x, and at all other bytes the items of S
  pub record IsPut (S : List X) (x : X) (S' : List X) : Type 0 where
    pub content : IsContent S'
    pub there : Contains S' x
    pub others : (y : X) → bytes y ≢ bytes x → Contains S' y ↔ Contains S y

  -- S' is the content that has x, and the items of S that are not related to x
  pub record IsOver (S : List X) (x : X) (S' : List X) : Type 0 where
    pub content : IsContent S'
    pub there : Contains S' x
    pub others : (y : X) → related (bytes y) (bytes x) ≡ false → Contains S' y ↔ Contains S y
