-- What the contracts of the kind of a prefix entry cite.
pub use Rattle.blart_map.specs.declared.prefix_kind.PrefixKind.TheVariants.{Leaf, Inner, Vacant}
use Rattle.std.specs.Prelude.{◌≡◌, ℕ, Bool, true, false, List, Option, Some, None, option_map}
use Rattle.std.specs.Borrow.{MutBor}
use Rattle.blart_keys.specs.declared.AsBytes.{Ghosts}
use Rattle.blart_keys.specs.Entries.{Kind}
use Rattle.blart_map.specs.Content.{Numbered}
use Rattle.blart_map.specs.Entry as entry
use Rattle.blart_map.specs.Entry.{Occupied, entry_pair, entry_key, entry_bytes, SetsValue, IsSetEntry}
use Rattle.blart_map.specs.InnerEntry.{IsOverSet, IsOverEntry}
use Rattle.blart_map.specs.declared.occupied.OccupiedEntry.{OccupiedEntry}
use Rattle.blart_map.specs.PrefixEntry.{prefix_ref, prefix_bytes, prefix_pair, prefix_key, prefix_is_inner, prefix_kind}
use Rattle.blart_map.specs.declared.prefix_entry.PrefixEntry.{PrefixEntry}
use Rattle.blart_map.specs.declared.prefix_kind.PrefixKind.{PrefixKind}

module _ {K V T : Type 0} {P : ℕ} {g : Ghosts K} where
  -- the reference to the map
  abbrev pub kind_ref : PrefixKind K V P T g → MutBor (List (Numbered K V))
  kind_ref (Leaf o) = o.map
  kind_ref (Inner e) = e.map
  kind_ref (Vacant e) = e.map

  -- the bytes of the key
  abbrev pub kind_bytes : PrefixKind K V P T g → List ℕ
  kind_bytes (Leaf o) = entry_bytes (Occupied o)
  kind_bytes (Inner e) = g.bytes e.key
  kind_bytes (Vacant e) = g.bytes e.key

  -- the stored pair
  abbrev pub kind_pair : PrefixKind K V P T g → Option (K × V)
  kind_pair (Leaf o) = entry_pair (Occupied o)
  kind_pair (Inner e) = None
  kind_pair (Vacant e) = None

  -- the stored key, or the given key
  abbrev pub kind_key : PrefixKind K V P T g → Option K
  kind_key (Leaf o) = entry_key (Occupied o)
  kind_key (Inner e) = Some e.key
  kind_key (Vacant e) = Some e.key

  -- whether it is inner
  abbrev pub kind_is_inner : PrefixKind K V P T g → Bool
  kind_is_inner (Leaf o) = false
  kind_is_inner (Inner e) = true
  kind_is_inner (Vacant e) = false

  -- the stored value
  abbrev pub kind_value : PrefixKind K V P T g → Option V
  kind_value k = option_map (λ p. p.1) (kind_pair k)

  -- occupied, inner or vacant
  abbrev pub kind_kind : PrefixKind K V P T g → Kind
  kind_kind (Leaf o) = Kind.Occupied
  kind_kind (Inner e) = Kind.Inner
  kind_kind (Vacant e) = Kind.Vacant

  -- n are the pairs once w is the value of the key, in the place of all related pairs
  abbrev pub IsKindSet : PrefixKind K V P T g → V → List (Numbered K V) → Type 0
  IsKindSet (Leaf o) w n = SetsValue (entry.Occupied o) w n
  IsKindSet (Inner e) w n = IsOverSet e w n
  IsKindSet (Vacant e) w n = SetsValue (entry.Vacant e) w n

  -- o is the entry of the key, once w is its value, in the place of all related pairs
  abbrev pub IsKindSetEntry : PrefixKind K V P T g → V → OccupiedEntry K V P T g → Type 0
  IsKindSetEntry (Leaf p) w o = IsSetEntry (entry.Occupied p) w o
  IsKindSetEntry (Inner e) w o = IsOverEntry e w o
  IsKindSetEntry (Vacant e) w o = IsSetEntry (entry.Vacant e) w o

  -- o is the entry of the stored pair, or else the entry of the key once w is its value
  abbrev pub IsKindKeptOrSet : PrefixKind K V P T g → V → OccupiedEntry K V P T g → Type 0
  IsKindKeptOrSet (Leaf p) w o = o ≡ p
  IsKindKeptOrSet (Inner e) w o = IsOverEntry e w o
  IsKindKeptOrSet (Vacant e) w o = IsSetEntry (entry.Vacant e) w o

  -- the same for some value w with `Made w`
  abbrev pub IsKindKeptOrMade : PrefixKind K V P T g → (V → Type 0) → OccupiedEntry K V P T g → Type 0
  IsKindKeptOrMade (Leaf p) Made o = o ≡ p
  IsKindKeptOrMade (Inner e) Made o = (w : V) × Made w × IsOverEntry e w o
  IsKindKeptOrMade (Vacant e) Made o = (w : V) × Made w × IsSetEntry (entry.Vacant e) w o

  -- k is the entry e
  pub record IsKindOf (e : PrefixEntry K V P T g) (k : PrefixKind K V P T g) : Type 0 where
    pub same_map : (kind_ref k).ghost_name ≡ (prefix_ref e).ghost_name
    pub unchanged : (kind_ref k).now ≡ (prefix_ref e).now
    pub same_bytes : kind_bytes k ≡ prefix_bytes e
    pub pair : kind_pair k ≡ prefix_pair e
    pub key : kind_key k ≡ prefix_key e
    pub inner : kind_is_inner k ≡ prefix_is_inner e
    pub kind : kind_kind k ≡ prefix_kind e
