-- What a contract sees of the inner nodes.
use Rattle.std.specs.Prelude.{◌≡◌, ◌≢◌, ℕ, zero, suc, ◌+◌, ◌-◌, ◌*◌, ◌/◌, ◌%◌, ◌≤◌, ◌<◌, List, [], ◌∷◌, ◌++◌, take, drop, length, Option, Some, None, sum_by, min, max, refl}
use Rattle.std.specs.Coded.{Coded, code_by, coded×, coded_ℕ, coded_list}
use Rattle.art_kinds.specs.declared.records.ids.Edge.{Edge}
use Rattle.art_kinds.specs.declared.records.ids.Child.{Child}
use Rattle.art_kinds.specs.Edges.{child_at, AddsChild, DropsChild, Ascends}
use Rattle.art_kinds.specs.Codes.{edge_code}
use Rattle.art_slots.specs.Store.{Store, slot_at, store_code, used_count}

-- a node: its depth, the first bytes of its compressed prefix, and its edges
pub record Node : Type 0 where
  pub depth : ℕ
  pub prefix : List ℕ
  pub edges : List Edge

-- a node is coded as the tuple of its fields
abbrev pub node_code : Coded Node
node_code = code_by (ℕ × (List ℕ × List Edge)) (coded× coded_ℕ (coded× (coded_list coded_ℕ) (coded_list edge_code))) (λ x. (x.depth, (x.prefix, x.edges))) (λ p. record { depth = p.0; prefix = p.1.0; edges = p.1.1 }) (λ _. refl)

-- the nodes and the spare records of each kind
pub record Nodes : Type 0 where
  pub fours : Store Node
  pub sixteens : Store Node
  pub forty_eights : Store Node
  pub fulls : Store Node

-- the nodes are coded as the tuple of the stores
abbrev pub nodes_code : Coded Nodes
nodes_code =
    code_by
    (Store Node × (Store Node × (Store Node × Store Node)))
    (coded× (store_code node_code) (coded× (store_code node_code) (coded× (store_code node_code) (store_code node_code))))
    (λ s. (s.fours, (s.sixteens, (s.forty_eights, s.fulls))))
    (λ p. record { fours = p.0; sixteens = p.1.0; forty_eights = p.1.1.0; fulls = p.1.1.1 })
    (λ _. refl)

-- the nodes of a kind
abbrev pub store_of : Nodes → ℕ → Store Node
store_of s zero = s.fours
store_of s (suc zero) = s.sixteens
store_of s (suc (suc zero)) = s.forty_eights
store_of s (suc (suc (suc k))) = s.fulls

-- the node under a number, which is four times its place plus its kind
abbrev pub at : Nodes → ℕ → Option Node
at s id = slot_at (store_of s (id % 4)) (id / 4)

-- how many nodes there are
abbrev pub live : Nodes → ℕ
live s = used_count s.fours + used_count s.sixteens + used_count s.forty_eights + used_count s.fulls

-- how many children a node of a kind has places for
abbrev pub places : ℕ → ℕ
places zero = 4
places (suc zero) = 16
places (suc (suc zero)) = 48
places (suc (suc (suc k))) = 256

-- how many children there are before the placement that brings a node into a kind
abbrev pub floor : ℕ → ℕ
floor zero = 1
floor (suc zero) = 4
floor (suc (suc zero)) = 16
floor (suc (suc (suc k))) = 48

-- how many more children than a floor a node has
abbrev pub over : ℕ → Option Node → ℕ
over f None = 0
over f (Some x) = length x.edges - f

-- the sum of `over` for all nodes of a store
abbrev pub grown : ℕ → Store Node → ℕ
grown f s = sum_by (over f) s.slots

-- for how many placements the spare records of a kind are surely enough, by the kind below it
abbrev pub serves : ℕ → ℕ → ℕ → ℕ
serves spare takes grown = max spare (takes * spare + (takes - 1) - grown)

-- how many placements it takes to bring a node from the floor of a kind to the next kind
abbrev pub takes : ℕ → ℕ
takes zero = 4
takes (suc zero) = 13
takes (suc (suc k)) = 33

-- for how many placements the spare records of a kind are surely enough
abbrev pub figure : Nodes → ℕ → ℕ
figure s zero = s.fours.spare
figure s (suc k) = serves (store_of s (suc k)).spare (takes k) (grown (floor k) (store_of s k))

-- for how many placements the spare records of all kinds are surely enough
abbrev pub room : Nodes → ℕ
room s = min (min (figure s 0) (figure s 1)) (min (figure s 2) (figure s 3))

-- the figure of the kind k is lower by at most one, and no other figure is lower
pub record Lowers (k : ℕ) (old new : Nodes) : Type 0 where
  pub this : figure old k ≤ figure new k + 1
  pub others : (j : ℕ) → j < 4 → j ≢ k → figure old j ≤ figure new j

-- no figure is lower
abbrev pub MoreSpares : Nodes → Nodes → Type 0
MoreSpares old new = (j : ℕ) → j < 4 → figure old j ≤ figure new j

-- the figures are unchanged
abbrev pub SameSpares : Nodes → Nodes → Type 0
SameSpares old new = (j : ℕ) → j < 4 → figure new j ≡ figure old j

-- there is a spare record for a new node
abbrev pub FitsNew : Nodes → Type 0
FitsNew s = 0 < s.fours.spare

-- the node under a number has a place for one more edge
abbrev pub HasPlace : Nodes → ℕ → Type 0
HasPlace s id = (x : Node) → at s id ≡ Some x → id % 4 < 3 → length x.edges < places (id % 4)

-- the node has a place for one more edge, or there is a spare record of the next kind
abbrev pub FitsMore : Nodes → ℕ → Type 0
FitsMore s id = (x : Node) → at s id ≡ Some x → id % 4 < 3 → places (id % 4) ≤ length x.edges → 0 < (store_of s (id % 4 + 1)).spare

-- the nodes are unchanged
abbrev pub SameNodes : Nodes → Nodes → Type 0
SameNodes old new = (j : ℕ) → at new j ≡ at old j

-- there is a new node, with two edges, and the other nodes are unchanged
pub record Makes (old new : ℕ → Option Node) (n depth : ℕ) (prefix : List ℕ) (low high : Edge) : Type 0 where
  pub fresh : old n ≡ None
  pub is : new n ≡ Some (record { depth = depth; prefix = prefix; edges = low ∷ high ∷ [] })
  pub others : (j : ℕ) → j ≢ n → new j ≡ old j

-- a node has another number, or the same number, and the other nodes are unchanged
pub record Renames (old new : ℕ → Option Node) (n m : ℕ) : Type 0 where
  pub node : Node
  pub was : old n ≡ Some node
  pub is : new m ≡ Some node
  pub fresh : m ≢ n → old m ≡ None
  pub gone : m ≢ n → new n ≡ None
  pub others : (j : ℕ) → j ≢ n → j ≢ m → new j ≡ old j

-- one node has one more edge, and the other nodes are unchanged
pub record AddsEdgeTo (old new : ℕ → Option Node) (n b : ℕ) (to : Child) : Type 0 where
  pub was : Node
  pub was_is : old n ≡ Some was
  pub is : Node
  pub is_is : new n ≡ Some is
  pub depth : is.depth ≡ was.depth
  pub prefix : is.prefix ≡ was.prefix
  pub absent : child_at was.edges b ≡ None
  pub edges : AddsChild was.edges is.edges b to
  pub others : (j : ℕ) → j ≢ n → new j ≡ old j

-- one edge of a node is redirected, and the other edges and nodes are unchanged
pub record Redirects (old new : ℕ → Option Node) (n b : ℕ) (to : Child) : Type 0 where
  pub was : Node
  pub was_is : old n ≡ Some was
  pub is : Node
  pub is_is : new n ≡ Some is
  pub depth : is.depth ≡ was.depth
  pub prefix : is.prefix ≡ was.prefix
  pub now : child_at is.edges b ≡ Some to
  pub rest : (c : ℕ) → c ≢ b → child_at is.edges c ≡ child_at was.edges c
  pub same_length : length is.edges ≡ length was.edges
  pub ascends : Ascends is.edges
  pub others : (j : ℕ) → j ≢ n → new j ≡ old j

-- one edge of a node is removed, and the other edges and nodes are unchanged
pub record DropsEdge (old new : ℕ → Option Node) (n b : ℕ) : Type 0 where
  pub was : Node
  pub was_is : old n ≡ Some was
  pub is : Node
  pub is_is : new n ≡ Some is
  pub depth : is.depth ≡ was.depth
  pub prefix : is.prefix ≡ was.prefix
  pub edges : DropsChild was.edges is.edges b
  pub others : (j : ℕ) → j ≢ n → new j ≡ old j

-- a node has another prefix, and the rest is unchanged
pub record Reprefixes (old new : ℕ → Option Node) (n : ℕ) (prefix : List ℕ) : Type 0 where
  pub was : Node
  pub was_is : old n ≡ Some was
  pub is_is : new n ≡ Some (record was { prefix = prefix })
  pub others : (j : ℕ) → j ≢ n → new j ≡ old j

-- a node keeps P bytes of the prefix of `upper`, the byte and its own prefix, in this order
abbrev pub JoinsPrefix : ℕ → (ℕ → Option Node) → (ℕ → Option Node) → ℕ → ℕ → ℕ → Type 0
JoinsPrefix P old new n upper b = (x y : Node) → old n ≡ Some x → old upper ≡ Some y → Reprefixes old new n (take P (y.prefix ++ b ∷ x.prefix))

-- a node keeps P bytes of its prefix without the first `count`, and the rest is unchanged
abbrev pub CutsPrefix : ℕ → (ℕ → Option Node) → (ℕ → Option Node) → ℕ → ℕ → Type 0
CutsPrefix P old new n count = (x : Node) → old n ≡ Some x → Reprefixes old new n (take P (drop count x.prefix))

-- a node is removed, and the other nodes are unchanged
pub record Frees (old new : ℕ → Option Node) (n : ℕ) : Type 0 where
  pub gone : new n ≡ None
  pub others : (j : ℕ) → j ≢ n → new j ≡ old j
