-- The edges of a node, and their bytes.
use Rattle.std.specs.Prelude.{◌≡◌, ◌≢◌, ◌<◌, ◌≤◌, ℕ, Bool, true, false, List, [], ◌∷◌, Option, Some, None, if◌then◌else◌, eqb, ltb, suc, ◌+◌, length, take, map, is_some, count_by, slice_index_or}
use Rattle.art_kinds.specs.declared.records.ids.Child.{Child}
use Rattle.art_kinds.specs.declared.records.ids.Edge.{Edge}
use Rattle.art_kinds.specs.declared.records.ids.Child.TheVariants.{Leaf}
use Rattle.art_kinds.specs.declared.records.ids.End.{End}
use Rattle.art_kinds.specs.declared.records.ids.End.TheVariants.{First, Last}

-- the child of the first edge at a byte, if there is one
abbrev pub child_at : List Edge → ℕ → Option Child
child_at [] b = None
child_at (e ∷ es) b = if eqb e.byte b then Some e.to else child_at es b

-- the bytes ascend, and all are greater than this one
abbrev pub AscendsAbove : ℕ → List Edge → Type 0
AscendsAbove b [] = Unit {0}
AscendsAbove b (e ∷ es) = (b < e.byte) × AscendsAbove e.byte es

-- the bytes ascend
abbrev pub Ascends : List Edge → Type 0
Ascends [] = Unit {0}
Ascends (e ∷ es) = AscendsAbove e.byte es

-- how many bytes are less than a byte, counted up to the first that is not
abbrev pub count_below : List ℕ → ℕ → ℕ
count_below [] b = 0
count_below (x ∷ xs) b = if ltb x b then suc (count_below xs b) else 0

-- the edges with one more, before the first edge with a byte that is not less
abbrev pub edges_with : List Edge → Edge → List Edge
edges_with [] e = e ∷ []
edges_with (x ∷ xs) e = if ltb x.byte e.byte then x ∷ edges_with xs e else e ∷ x ∷ xs

-- the edges without the first edge at a byte
abbrev pub edges_without : List Edge → ℕ → List Edge
edges_without [] b = []
edges_without (x ∷ xs) b = if eqb x.byte b then xs else x ∷ edges_without xs b

-- the edges, with the first edge at a byte redirected
abbrev pub edges_with_child : List Edge → ℕ → Child → List Edge
edges_with_child [] b to = []
edges_with_child (e ∷ es) b to = if eqb e.byte b then record { byte = b; to = to } ∷ es else e ∷ edges_with_child es b to

-- there is one more edge, and the other edges are unchanged
pub record AddsChild (old new : List Edge) (b : ℕ) (to : Child) : Type 0 where
  pub added : child_at new b ≡ Some to
  pub rest : (c : ℕ) → c ≢ b → child_at new c ≡ child_at old c
  pub longer : length new ≡ length old + 1
  pub ascends : Ascends new

-- there is one edge less, and the other edges are unchanged
pub record DropsChild (old new : List Edge) (b : ℕ) : Type 0 where
  pub gone : child_at new b ≡ None
  pub rest : (c : ℕ) → c ≢ b → child_at new c ≡ child_at old c
  pub shorter : length new + 1 ≡ length old
  pub ascends : Ascends new

-- one edge is redirected, and the other edges are unchanged
pub record RedirectsChild (old new : List Edge) (b : ℕ) (to : Child) : Type 0 where
  pub now : child_at new b ≡ Some to
  pub rest : (c : ℕ) → c ≢ b → child_at new c ≡ child_at old c
  pub same_length : length new ≡ length old
  pub ascends : Ascends new

-- the edge with the least byte greater than a byte, if there is one
abbrev pub IsNext : List Edge → ℕ → Option Edge → Type 0
IsNext es b None = (c : ℕ) → b < c → child_at es c ≡ None
IsNext es b (Some e) = (b < e.byte) × (child_at es e.byte ≡ Some e.to) × ((c : ℕ) → b < c → c < e.byte → child_at es c ≡ None)

-- the first `count` edges of an array are used, and their bytes ascend
pub record Sorted (count room : ℕ) (edges : List Edge) : Type 0 where
  pub within : count ≤ room
  pub long : length edges ≡ room
  pub ascends : Ascends (take count edges)
  pub small : (b : ℕ) → 256 ≤ b → child_at (take count edges) b ≡ None

-- the first edge with a byte greater than a byte, if there is one
abbrev pub after : List Edge → ℕ → Option Edge
after [] b = None
after (e ∷ es) b = if ltb b e.byte then Some e else after es b

-- the first of the two edges, if it is there, or else the second
abbrev pub later : Option Edge → Edge → Edge
later None e = e
later (Some x) e = x

-- the last edge with a byte less than a byte, of the edges before the first that is not less
abbrev pub before : List Edge → ℕ → Option Edge
before [] b = None
before (e ∷ es) b = if ltb e.byte b then Some (later (before es b) e) else None

-- the edge with the greatest byte less than a byte, if there is one
abbrev pub IsPrevious : List Edge → ℕ → Option Edge → Type 0
IsPrevious es b None = (c : ℕ) → c < b → child_at es c ≡ None
IsPrevious es b (Some e) = (e.byte < b) × (child_at es e.byte ≡ Some e.to) × ((c : ℕ) → e.byte < c → c < b → child_at es c ≡ None)

-- one byte comes before another in ascending order, or in descending order
abbrev pub Precedes : Bool → ℕ → ℕ → Type 0
Precedes true b c = b < c
Precedes false b c = c < b

-- whether this is the first end
abbrev pub is_first : End → Bool
is_first First = true
is_first Last = false

-- the edge with the least byte, or the edge with the greatest byte
pub record IsEnd (is_first : Bool) (es : List Edge) (e : Edge) : Type 0 where
  pub there : child_at es e.byte ≡ Some e.to
  pub end : (c : ℕ) → Precedes is_first c e.byte → child_at es c ≡ None

-- the edge with the least byte that is not less than a byte, if there is one
abbrev pub IsFrom : List Edge → ℕ → Option Edge → Type 0
IsFrom es b None = (c : ℕ) → b ≤ c → child_at es c ≡ None
IsFrom es b (Some e) = (b ≤ e.byte) × (child_at es e.byte ≡ Some e.to) × ((c : ℕ) → b ≤ c → c < e.byte → child_at es c ≡ None)

-- the edges of a table that has the child or nothing for each byte, from this byte on
abbrev pub edges_from : List (Option Child) → ℕ → List Edge
edges_from [] b = []
edges_from (None ∷ t) b = edges_from t (b + 1)
edges_from (Some c ∷ t) b = record { byte = b; to = c } ∷ edges_from t (b + 1)

-- the edges of a table for all bytes
abbrev pub edges_of : List (Option Child) → List Edge
edges_of t = edges_from t 0

-- a table has an entry for each byte, and `count` children
pub record Filled (count : ℕ) (t : List (Option Child)) : Type 0 where
  pub wide : length t ≡ 256
  pub counted : count_by is_some t ≡ count

-- the child at a place, or none if the place is not less than 48
abbrev pub child_under : List Child → ℕ → Option Child
child_under children s = if ltb s 48 then Some (slice_index_or children s (Leaf 0)) else None

-- the table of the children at the places of an index
abbrev pub table : List ℕ → List Child → List (Option Child)
table index children = map (child_under children) index

-- an index has each of the first `count` places for one byte, and no place for the other bytes
pub record IsIndex (count : ℕ) (index : List ℕ) (children : List Child) : Type 0 where
  pub within : count ≤ 48
  pub wide : length index ≡ 256
  pub long : length children ≡ 48
  pub used : (b : ℕ) → slice_index_or index b 48 < 48 → slice_index_or index b 48 < count
  pub apart : (b c : ℕ) → slice_index_or index b 48 < 48 → slice_index_or index b 48 ≡ slice_index_or index c 48 → b ≡ c
  pub counted : count_by is_some (table index children) ≡ count

-- a number, with `from` replaced by `to`
abbrev pub moved : ℕ → ℕ → ℕ → ℕ
moved from to p = if eqb p from then to else p

-- the edges with these bytes and these children
abbrev pub paired : List ℕ → List Child → List Edge
paired [] cs = []
paired (b ∷ bs) [] = []
paired (b ∷ bs) (c ∷ cs) = record { byte = b; to = c } ∷ paired bs cs

-- the first `count` bytes and children of two arrays are used, the bytes ascend, and a byte can
-- hold the count
pub record IsFew (count room : ℕ) (bytes : List ℕ) (children : List Child) : Type 0 where
  pub sorted : Sorted count room (paired bytes children)
  pub wide : length bytes ≡ room
  pub long : length children ≡ room
  pub fits : room < 256
