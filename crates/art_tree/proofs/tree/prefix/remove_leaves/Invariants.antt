use Rattle.std.proofs.Common.{◌≡◌, ℕ, length, Some}
use Rattle.blart_keys.specs.Content.{IsContent, under}
use Rattle.blart_keys.specs.Outside.{outside}
use Rattle.art_tree.specs.Leaves.{leaf_in, bytes}
use Rattle.art_tree.specs.Seeks.{ends}
use Rattle.art_tree.proofs.tree.prefix.remove_leaves.Given as goal

abbrev pub invariant-each : goal.invariant-each
invariant-each g l = record {
  content : IsContent (bytes g.K.AsBytes.bytes) l.leaves.pairs;
  span : ends (under (bytes g.K.AsBytes.bytes) l.leaves.pairs l.prefix) ≡ Some (l.id, l.last);
  rest : outside (bytes g.K.AsBytes.bytes) l.leaves.pairs l.prefix ≡ outside (bytes g.K.AsBytes.bytes) l.initial.leaves.pairs l.prefix;
  stood : (j : ℕ) (x : g.row.K.Denot × g.row.V.Denot) → leaf_in l.leaves.pairs j ≡ Some x → leaf_in l.initial.leaves.pairs j ≡ Some x;
}

abbrev pub decreases-each : goal.decreases-each
decreases-each g l = length l.leaves.pairs
