-- The edge to a child: the number of a node and a byte, or none for the root.
use Rattle.std.specs.Prelude.{◌≡◌, ℕ, [], ◌∷◌, ◌++◌, Option, Some, None}
use Rattle.art_tree.specs.Begins.{Bytes}
use Rattle.art_kinds.specs.Edges.{child_at, Ascends}
use Rattle.art_kinds.specs.Nodes.{Node, Redirects}
use Rattle.art_kinds.specs.declared.records.ids.Child.{Child}

-- the edge leads to the child, or if there is none, the child is the root
abbrev pub LeadsTo : (ℕ → Option Node) → Option Child → Option (ℕ × ℕ) → Child → Type 0
LeadsTo nodes root None c = root ≡ Some c
LeadsTo nodes root (Some e) c = (x : Node) × (nodes e.0 ≡ Some x) × (child_at x.edges e.1 ≡ Some c)

-- the edge is redirected to a child, or if there is none, the child is the new root
abbrev pub TurnsTo : (ℕ → Option Node) → (ℕ → Option Node) → Option Child → Option Child → Option (ℕ × ℕ) → Child → Type 0
TurnsTo old new root root' None c = ((j : ℕ) → new j ≡ old j) × (root' ≡ Some c)
TurnsTo old new root root' (Some e) c = Redirects old new e.0 e.1 c × (root' ≡ root)

-- the edges of the edge's node ascend
abbrev pub AscendsAt : (ℕ → Option Node) → Option (ℕ × ℕ) → Type 0
AscendsAt nodes None = Unit {0}
AscendsAt nodes (Some e) = (x : Node) → nodes e.0 ≡ Some x → Ascends x.edges

-- the front of an edge: the front of its node, and then its byte
abbrev pub edge_front : (ℕ → Bytes) → Option (ℕ × ℕ) → Bytes
edge_front front_of None = []
edge_front front_of (Some e) = front_of e.0 ++ e.1 ∷ []
