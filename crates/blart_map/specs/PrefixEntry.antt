-- What the contracts of a prefix entry cite.
pub use Rattle.blart_map.specs.declared.prefix_entry.PrefixEntry.TheVariants.{Occupied, Vacant}
pub use Rattle.blart_map.specs.declared.prefix_occupied.PrefixOccupied.TheVariants.{Leaf, Inner}
use Rattle.std.specs.Prelude.{◌≡◌, ℕ, Bool, true, false, List, Option, Some, None, option_map}
use Rattle.std.specs.Borrow.{MutBor}
use Rattle.blart_keys.specs.declared.AsBytes.{Ghosts}
use Rattle.blart_keys.specs.Entries.{Kind, kind_of}
use Rattle.blart_keys.specs.Steps.{bytes}
use Rattle.blart_keys.specs.Stored.{pair_at, overlaps}
use Rattle.art_tree.specs.Leaves.{with_value}
use Rattle.blart_map.specs.Content.{Numbered}
use Rattle.blart_map.specs.Entry as entry
use Rattle.blart_map.specs.Entry.{entry_pair, entry_key, entry_bytes, SetsValue, IsSetEntry}
use Rattle.blart_map.specs.InnerEntry.{inner_pair, over_leaf, IsOverSet, IsOverEntry}
use Rattle.blart_map.specs.declared.occupied.OccupiedEntry.{OccupiedEntry}
use Rattle.blart_map.specs.declared.prefix_entry.PrefixEntry.{PrefixEntry}
use Rattle.blart_map.specs.declared.prefix_occupied.PrefixOccupied.{PrefixOccupied}

module _ {K V T : Type 0} {P : ℕ} {g : Ghosts K} where
  -- the reference to the map
  abbrev pub occupied_ref : PrefixOccupied K V P T g → MutBor (List (Numbered K V))
  occupied_ref (Leaf o) = o.map
  occupied_ref (Inner e) = e.map

  -- the stored pair, or else the related pair if there is just one
  abbrev pub occupied_pair : PrefixOccupied K V P T g → Option (K × V)
  occupied_pair (Leaf o) = entry_pair (entry.Occupied o)
  occupied_pair (Inner e) = inner_pair e

  -- the stored key, or the given key
  abbrev pub occupied_key : PrefixOccupied K V P T g → Option K
  occupied_key (Leaf o) = entry_key (entry.Occupied o)
  occupied_key (Inner e) = Some e.key

  -- o is the entry of the key, once w is its value, in the place of all related pairs
  abbrev pub IsOccupiedSet : PrefixOccupied K V P T g → V → OccupiedEntry K V P T g → Type 0
  IsOccupiedSet (Leaf p) w o = IsSetEntry (entry.Occupied p) w o
  IsOccupiedSet (Inner e) w o = IsOverEntry e w o

  -- the pairs of the map, once w is the value of the key, in the place of all related pairs
  abbrev pub occupied_with : PrefixOccupied K V P T g → V → List (Numbered K V)
  occupied_with (Leaf o) w = with_value o.map.now o.id w
  occupied_with (Inner e) w = over_leaf e w

  -- n are these pairs, as users see it
  abbrev pub IsOccupiedWritten : PrefixOccupied K V P T g → V → List (Numbered K V) → Type 0
  IsOccupiedWritten (Leaf o) w n = SetsValue (entry.Occupied o) w n
  IsOccupiedWritten (Inner e) w n = IsOverSet e w n

  -- the reference to the map
  abbrev pub prefix_ref : PrefixEntry K V P T g → MutBor (List (Numbered K V))
  prefix_ref (Occupied p) = occupied_ref p
  prefix_ref (Vacant e) = e.map

  -- the bytes of the key
  abbrev pub prefix_bytes : PrefixEntry K V P T g → List ℕ
  prefix_bytes (Occupied (Leaf o)) = entry_bytes (entry.Occupied o)
  prefix_bytes (Occupied (Inner e)) = g.bytes e.key
  prefix_bytes (Vacant e) = g.bytes e.key

  -- the stored pair
  abbrev pub prefix_pair : PrefixEntry K V P T g → Option (K × V)
  prefix_pair (Occupied (Leaf o)) = entry_pair (entry.Occupied o)
  prefix_pair (Occupied (Inner e)) = None
  prefix_pair (Vacant e) = None

  -- and its value
  abbrev pub prefix_value : PrefixEntry K V P T g → Option V
  prefix_value e = option_map (λ p. p.1) (prefix_pair e)

  -- the stored key, or the given key
  abbrev pub prefix_key : PrefixEntry K V P T g → Option K
  prefix_key (Occupied p) = occupied_key p
  prefix_key (Vacant e) = Some e.key

  -- the stored key, or that of the only related pair, or the given key if no pair is related
  abbrev pub prefix_found : PrefixEntry K V P T g → Option K
  prefix_found (Occupied p) = option_map (λ p. p.0) (occupied_pair p)
  prefix_found (Vacant e) = Some e.key

  -- occupied, inner or vacant
  abbrev pub prefix_kind : PrefixEntry K V P T g → Kind
  prefix_kind (Occupied (Leaf o)) = Kind.Occupied
  prefix_kind (Occupied (Inner e)) = Kind.Inner
  prefix_kind (Vacant e) = Kind.Vacant

  -- whether it is inner
  abbrev pub prefix_is_inner : PrefixEntry K V P T g → Bool
  prefix_is_inner (Occupied (Leaf o)) = false
  prefix_is_inner (Occupied (Inner e)) = true
  prefix_is_inner (Vacant e) = false

  -- e is the entry of the key in the pairs S
  pub record IsPrefixEntryFor (S : List (K × V)) (key : K) (e : PrefixEntry K V P T g) : Type 0 where
    pub same_bytes : prefix_bytes e ≡ g.bytes key
    pub pair : prefix_pair e ≡ pair_at g.bytes S (g.bytes key)
    pub kind : prefix_kind e ≡ kind_of (bytes g.bytes) S (g.bytes key)
    pub inner : prefix_is_inner e ≡ overlaps g.bytes S (g.bytes key)
    pub fresh : prefix_pair e ≡ None → prefix_key e ≡ Some key

  -- o is the entry of the key, once w is its value, in the place of all related pairs
  abbrev pub IsPrefixSet : PrefixEntry K V P T g → V → OccupiedEntry K V P T g → Type 0
  IsPrefixSet (Occupied p) w o = IsOccupiedSet p w o
  IsPrefixSet (Vacant e) w o = IsSetEntry (entry.Vacant e) w o

  -- o is the entry of the stored pair, or else the entry of the key once w is its value
  abbrev pub IsPrefixKeptOrSet : PrefixEntry K V P T g → V → OccupiedEntry K V P T g → Type 0
  IsPrefixKeptOrSet (Occupied (Leaf p)) w o = o ≡ p
  IsPrefixKeptOrSet (Occupied (Inner e)) w o = IsOverEntry e w o
  IsPrefixKeptOrSet (Vacant e) w o = IsSetEntry (entry.Vacant e) w o

  -- the same for some value w with `Made w`
  abbrev pub IsPrefixKeptOrMade : PrefixEntry K V P T g → (V → Type 0) → OccupiedEntry K V P T g → Type 0
  IsPrefixKeptOrMade (Occupied (Leaf p)) Made o = o ≡ p
  IsPrefixKeptOrMade (Occupied (Inner e)) Made o = (w : V) × Made w × IsOverEntry e w o
  IsPrefixKeptOrMade (Vacant e) Made o = (w : V) × Made w × IsSetEntry (entry.Vacant e) w o
