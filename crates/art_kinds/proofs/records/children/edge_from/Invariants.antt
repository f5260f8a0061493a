use Rattle.std.proofs.Common.{◌≡◌, ℕ, ◌<◌, ◌≤◌, None}
use Rattle.art_kinds.specs.Edges.{child_at}
use Rattle.art_kinds.proofs.records.children.edge_from.Given as goal

abbrev pub invariant-loop-next : goal.invariant-loop-next
invariant-loop-next g l = (c : ℕ) → l.start ≤ c → c < l.next → child_at (g.C.Children.edges l.node) c ≡ None
