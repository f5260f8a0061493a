-- A node in the smallest kind that has room for it.
use Rattle.std.specs.Prelude.{◌≡◌, ℕ, ◌-◌, ◌%◌, ◌<◌, ◌≤◌, length, Some}
use Rattle.art_kinds.specs.Nodes.{Node, Nodes, at, places, store_of}

-- a node has the smallest kind with room for it, or the next smaller kind had no spare record
abbrev pub IsNarrow : Nodes → Nodes → ℕ → Type 0
IsNarrow old new id = (x : Node) → at new id ≡ Some x → 0 < id % 4 → length x.edges ≤ places (id % 4 - 1) → (store_of old (id % 4 - 1)).spare ≡ 0
