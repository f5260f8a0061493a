-- The root of a sound tree.
use Rattle.std.proofs.Common.{ℕ, Option, Some}
use Rattle.art_tree.specs.Begins.{Bytes}
use Rattle.art_kinds.specs.Nodes.{Node}
use Rattle.art_tree.specs.Invariant.Shape.{Shape}
use Rattle.art_tree.specs.Calls.Descents.{IsRoot}
use Rattle.art_kinds.specs.declared.records.ids.Child.{Child}

-- the root of a tree is a root
pub is_root : {P : ℕ} {nodes : ℕ → Option Node} {keys : ℕ → Option Bytes} {c : Child} → Shape P keys nodes (Some c) → IsRoot P nodes c
is_root {keys = keys} s = record { keys = keys; shape = s }
