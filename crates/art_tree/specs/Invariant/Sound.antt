-- The invariant of a tree's records.
use Rattle.std.specs.Prelude.{ℕ, List, Option}
use Rattle.blart_keys.specs.Content.{IsContent}
use Rattle.art_tree.specs.Leaves.{Leaves, keys_in, bytes}
use Rattle.art_kinds.specs.Nodes.{Nodes, at}
use Rattle.art_tree.specs.Invariant.Shape.{Shape}
use Rattle.art_kinds.specs.declared.records.ids.Child.{Child}

module _ {K V : Type 0} (key_bytes : K → List ℕ) where
  -- the pairs are a content, and the inner nodes are those of their keys
  pub record IsSound (P : ℕ) (leaves : Leaves K V) (nodes : Nodes) (root : Option Child) : Type 0 where
    pub content : IsContent (bytes key_bytes) leaves.pairs
    pub shape : Shape P (keys_in key_bytes leaves.pairs) (at nodes) root
