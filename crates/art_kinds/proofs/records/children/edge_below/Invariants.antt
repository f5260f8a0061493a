use Rattle.std.proofs.Common.{◌≡◌, ℕ, ◌<◌, ◌≤◌, None}
use Rattle.art_kinds.specs.Edges.{child_at}
use Rattle.art_kinds.proofs.records.children.edge_below.Given as goal

abbrev pub invariant-loop-next : goal.invariant-loop-next
invariant-loop-next g l = record {
  within : l.next ≤ l.end;
  none : (c : ℕ) → l.next ≤ c → c < l.end → child_at (g.C.Children.edges l.node) c ≡ None;
}

abbrev pub decreases-loop-next : goal.decreases-loop-next
decreases-loop-next g l = l.next
