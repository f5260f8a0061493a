-- What the contracts of an entry cite, and those of its variants, like `entry_pair (Occupied o)`.
pub use Rattle.blart_map.specs.declared.entry.Entry.TheVariants.{Occupied, Vacant}
use Rattle.std.specs.Prelude.{◌≡◌, ◌+◌, ℕ, List, [], length, Option, Some, None, option_map}
use Rattle.std.specs.Option.{unwrap_or}
use Rattle.std.specs.Borrow.{MutBor}
use Rattle.blart_keys.specs.declared.AsBytes.{Ghosts}
use Rattle.blart_keys.specs.Content.{IsPut, without}
use Rattle.blart_keys.specs.Steps.{bytes}
use Rattle.blart_keys.specs.Stored.{pair_at, value_at, Updates}
use Rattle.blart_keys.specs.Entries.{Kind, kind_of}
use Rattle.art_tree.specs.Leaves.{leaf_in, keys_in, with_value}
use Rattle.blart_map.specs.Content.{Numbered, pairs}
use Rattle.blart_map.specs.declared.entry.Entry.{Entry}
use Rattle.blart_map.specs.declared.occupied.OccupiedEntry.{OccupiedEntry}
use Rattle.blart_map.specs.declared.vacant.VacantEntry.{VacantEntry}

module _ {K V T : Type 0} {P : ℕ} {g : Ghosts K} where
  -- the reference to the map
  abbrev pub entry_ref : Entry K V P T g → MutBor (List (Numbered K V))
  entry_ref (Occupied o) = o.map
  entry_ref (Vacant e) = e.map

  -- the pairs of the map
  abbrev pub entry_pairs : Entry K V P T g → List (K × V)
  entry_pairs e = pairs (entry_ref e).now

  -- the bytes of the key
  abbrev pub entry_bytes : Entry K V P T g → List ℕ
  entry_bytes (Occupied o) = unwrap_or (keys_in g.bytes o.map.now o.id) []
  entry_bytes (Vacant e) = g.bytes e.key

  -- the stored pair
  abbrev pub entry_pair : Entry K V P T g → Option (K × V)
  entry_pair (Occupied o) = leaf_in o.map.now o.id
  entry_pair (Vacant e) = None

  -- and its value
  abbrev pub entry_value : Entry K V P T g → Option V
  entry_value e = option_map (λ p. p.1) (entry_pair e)

  -- the stored key, or the given key
  abbrev pub entry_key : Entry K V P T g → Option K
  entry_key (Occupied o) = option_map (λ p. p.0) (leaf_in o.map.now o.id)
  entry_key (Vacant e) = Some e.key

  -- the given key of a vacant entry
  abbrev pub vacant_key : VacantEntry K V P T g → K
  vacant_key e = e.key

  -- occupied or vacant
  abbrev pub entry_kind : Entry K V P T g → Kind
  entry_kind (Occupied o) = Kind.Occupied
  entry_kind (Vacant e) = Kind.Vacant

  -- the number of pairs that are added once the key has a value
  abbrev pub entry_more : Entry K V P T g → ℕ
  entry_more (Occupied o) = 0
  entry_more (Vacant e) = 1

  -- n are the pairs once w is the value of the key, as a list
  abbrev pub IsWritten : Entry K V P T g → V → List (Numbered K V) → Type 0
  IsWritten (Occupied o) w n = n ≡ with_value o.map.now o.id w
  IsWritten (Vacant e) w n = IsPut (bytes g.bytes) (pairs e.map.now) (e.key, w) (pairs n)

  -- the same, as users see it and as a list
  abbrev pub SetsValue : Entry K V P T g → V → List (Numbered K V) → Type 0
  SetsValue e w n =
      Updates g.bytes (entry_pairs e) (pairs n) (entry_bytes e) (option_map (λ k. (k, w)) (entry_key e))
      × (value_at g.bytes (pairs n) (entry_bytes e) ≡ Some w)
      × (length (pairs n) ≡ length (entry_pairs e) + entry_more e)
      × IsWritten e w n

  -- o is the entry of the key of e, once w is its value
  pub record IsSetEntry (e : Entry K V P T g) (w : V) (o : OccupiedEntry K V P T g) : Type 0 where
    pub same_map : o.map.ghost_name ≡ (entry_ref e).ghost_name
    pub set : SetsValue e w o.map.now
    pub pair : entry_pair (Occupied o) ≡ option_map (λ k. (k, w)) (entry_key e)
    pub same_bytes : entry_bytes (Occupied o) ≡ entry_bytes e

  -- n are the pairs once the entry's pair is removed
  abbrev pub IsRemoved : Entry K V P T g → List (Numbered K V) → Type 0
  IsRemoved e n =
      Updates g.bytes (entry_pairs e) (pairs n) (entry_bytes e) None
      × (length (pairs n) + 1 ≡ length (entry_pairs e))
      × (pairs n ≡ without (bytes g.bytes) (entry_pairs e) (entry_bytes e))

  -- once the entry's pair is removed, the pairs are S again
  abbrev pub IsUndone : OccupiedEntry K V P T g → List (K × V) → Type 0
  IsUndone o S = (n : List (Numbered K V)) → IsRemoved (Occupied o) n → pairs n ≡ S

  -- e is the entry of the key in the pairs S
  pub record IsEntryFor (S : List (K × V)) (key : K) (e : Entry K V P T g) : Type 0 where
    pub same_bytes : entry_bytes e ≡ g.bytes key
    pub pair : entry_pair e ≡ pair_at g.bytes S (g.bytes key)
    pub kind : entry_kind e ≡ kind_of (bytes g.bytes) S (g.bytes key)
    pub fresh : entry_pair e ≡ None → entry_key e ≡ Some key

  -- d is the entry e once w is its value, and a value that is set at d is set at e
  pub record IsSameWith (e : Entry K V P T g) (w : V) (d : Entry K V P T g) : Type 0 where
    pub same_map : (entry_ref d).ghost_name ≡ (entry_ref e).ghost_name
    pub set : SetsValue e w (entry_ref d).now
    pub value : entry_value d ≡ Some w
    pub same_bytes : entry_bytes d ≡ entry_bytes e
    pub same_key : entry_key d ≡ entry_key e
    pub again : (u : V) (n : List (Numbered K V)) → SetsValue d u n → SetsValue e u n

  -- o is the entry if it was occupied, or else the entry of the key once w is its value
  abbrev pub IsKeptOrSet : Entry K V P T g → V → OccupiedEntry K V P T g → Type 0
  IsKeptOrSet (Occupied p) w o = o ≡ p
  IsKeptOrSet (Vacant e) w o = IsSetEntry (Vacant e) w o

  -- the same for some value w with `Made w`
  abbrev pub IsKeptOrMade : Entry K V P T g → (V → Type 0) → OccupiedEntry K V P T g → Type 0
  IsKeptOrMade (Occupied p) Made o = o ≡ p
  IsKeptOrMade (Vacant e) Made o = (w : V) × Made w × IsSetEntry (Vacant e) w o
