-- What the contracts of an inner entry cite.
use Rattle.std.specs.Prelude.{◌≡◌, ℕ, List, [], ◌∷◌, length, Option, Some, None, IfSome}
use Rattle.std.specs.Borrow.{MutBor}
use Rattle.blart_keys.specs.declared.AsBytes.{Ghosts}
use Rattle.blart_keys.specs.Content.{subtree, IsOver}
use Rattle.blart_keys.specs.Steps.{bytes as pair_bytes}
use Rattle.blart_keys.specs.Stored.{value_at, Overwrites, Updates}
use Rattle.art_tree.specs.Leaves.{Numbered, with_pair, with_value}
use Rattle.blart_map.specs.Content.{pairs}
use Rattle.art_edits.specs.Spans.{thinned}
use Rattle.blart_map.specs.Entry.{Occupied, entry_pair, entry_bytes}
use Rattle.blart_map.specs.declared.occupied.OccupiedEntry.{OccupiedEntry}
use Rattle.blart_map.specs.declared.inner.InnerOccupiedEntry.{InnerOccupiedEntry}

-- the item of a list with just one item
abbrev pub only : {X : Type 0} → List X → Option X
only [] = None
only (x ∷ []) = Some x
only (x ∷ y ∷ xs) = None

module _ {K V T : Type 0} {P : ℕ} {g : Ghosts K} where
  -- the reference to the map
  abbrev pub inner_ref : InnerOccupiedEntry K V P T g → MutBor (List (Numbered K V))
  inner_ref e = e.map

  -- the given key
  abbrev pub inner_key : InnerOccupiedEntry K V P T g → K
  inner_key e = e.key

  -- the pairs to which the key is related
  abbrev pub related_pairs : InnerOccupiedEntry K V P T g → List (K × V)
  related_pairs e = subtree (pair_bytes g.bytes) (pairs e.map.now) (g.bytes e.key)

  -- the related pair, if there is just one
  abbrev pub inner_pair : InnerOccupiedEntry K V P T g → Option (K × V)
  inner_pair e = only (related_pairs e)

  -- d is the entry e, and its map has the pairs n
  pub record IsInnerWith (e : InnerOccupiedEntry K V P T g) (n : List (Numbered K V)) (d : InnerOccupiedEntry K V P T g) : Type 0 where
    pub same_map : d.map.ghost_name ≡ e.map.ghost_name
    pub now : d.map.now ≡ n
    pub same_key : d.key ≡ e.key
    pub same_first : d.first ≡ e.first
    pub same_last : d.last ≡ e.last

  -- the pairs, once the first related pair has the value w
  abbrev pub inner_with : InnerOccupiedEntry K V P T g → V → List (Numbered K V)
  inner_with e w = with_value e.map.now e.first w

  -- if there is just one related pair, it has the value w in n, and all else is unchanged
  abbrev pub IsOnlyWritten : InnerOccupiedEntry K V P T g → V → List (Numbered K V) → Type 0
  IsOnlyWritten e w n = IfSome (inner_pair e) (λ p. Updates g.bytes (pairs e.map.now) (pairs n) (g.bytes p.0) (Some (p.0, w)) × (length (pairs n) ≡ length (pairs e.map.now)))

  -- the key has the value w in the place of all related pairs: as users see it, and as a list
  abbrev pub IsOverSet : InnerOccupiedEntry K V P T g → V → List (Numbered K V) → Type 0
  IsOverSet e w n = Overwrites g.bytes (pairs e.map.now) (e.key, w) (pairs n) × (value_at g.bytes (pairs n) (g.bytes e.key) ≡ Some w) × IsOver (pair_bytes g.bytes) (pairs e.map.now) (e.key, w) (pairs n)

  -- the pairs, once the key has the value w under the last related pair's number, and no other
  -- related pair is left
  abbrev pub over_leaf : InnerOccupiedEntry K V P T g → V → List (Numbered K V)
  over_leaf e w = with_pair (thinned g.bytes e.map.now (g.bytes e.key) e.last) e.last (e.key, w)

  -- o is the entry of the key, once the key has the value w in the place of all related pairs
  pub record IsOverEntry (e : InnerOccupiedEntry K V P T g) (w : V) (o : OccupiedEntry K V P T g) : Type 0 where
    pub same_map : o.map.ghost_name ≡ e.map.ghost_name
    pub set : IsOverSet e w o.map.now
    pub pair : entry_pair (Occupied o) ≡ Some (e.key, w)
    pub same_bytes : entry_bytes (Occupied o) ≡ g.bytes e.key
