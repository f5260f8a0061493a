-- What a contract sees of the nodes of one kind.
use Rattle.std.specs.Prelude.{◌≡◌, ◌≢◌, ◌≤◌, ◌<◌, ◌+◌, ◌^◌, ℕ, List, Option, Some, None, length}
use Rattle.art_kinds.specs.Nodes.{Node}
use Rattle.art_kinds.specs.declared.records.ids.Edge.{Edge}
use Rattle.art_slots.specs.Store.{Store, slot_at, used_count}

-- there are places for n children, if the number of places is limited
abbrev pub FitsIn : Option ℕ → ℕ → Type 0
FitsIn None n = Unit {0}
FitsIn (Some p) n = n ≤ p

-- no node has more children than places
abbrev pub AllFit : Option ℕ → Store Node → Type 0
AllFit places s = (i : ℕ) (x : Node) → slot_at s i ≡ Some x → FitsIn places (length x.edges)

-- no node has more children than places, and if there is a record or room for one, P is small
pub record IsOneKind (P : ℕ) (places : Option ℕ) (s : Store Node) : Type 0 where
  pub all : AllFit places s
  pub small : 0 < used_count s + s.spare → P < 2 ^ 62

-- a node has other edges, and the rest of it is unchanged
pub record Rewires (R : List Edge → List Edge → Type 0) (was is : Node) : Type 0 where
  pub depth : is.depth ≡ was.depth
  pub prefix : is.prefix ≡ was.prefix
  pub edges : R was.edges is.edges

-- the node at one place changes as R says, and the other nodes and the spare records are unchanged
pub record Changes (R : Node → Node → Type 0) (old new : Store Node) (i : ℕ) : Type 0 where
  pub was : Node
  pub was_is : slot_at old i ≡ Some was
  pub is : Node
  pub is_is : slot_at new i ≡ Some is
  pub so : R was is
  pub others : (j : ℕ) → j ≢ i → slot_at new j ≡ slot_at old j
  pub spare : new.spare ≡ old.spare
  pub used : used_count new ≡ used_count old

-- a node is removed, and its record becomes spare
pub record Loses (old new : Store Node) (i : ℕ) : Type 0 where
  pub gone : slot_at new i ≡ None
  pub others : (j : ℕ) → j ≢ i → slot_at new j ≡ slot_at old j
  pub spare : new.spare ≡ old.spare + 1
  pub used : used_count new + 1 ≡ used_count old

-- a node is added, in a spare record
pub record Gains (old new : Store Node) (i : ℕ) (x : Node) : Type 0 where
  pub fresh : slot_at old i ≡ None
  pub is : slot_at new i ≡ Some x
  pub others : (j : ℕ) → j ≢ i → slot_at new j ≡ slot_at old j
  pub spare : new.spare + 1 ≡ old.spare
  pub used : used_count new ≡ used_count old + 1

-- the nodes are unchanged, and there may be more spare records
pub record Grows (old new : Store Node) : Type 0 where
  pub same : (j : ℕ) → slot_at new j ≡ slot_at old j
  pub used : used_count new ≡ used_count old
  pub spare : old.spare ≤ new.spare
