use Rattle.std.proofs.Common.{◌≡◌}
use Rattle.art_rows.proofs.leaves.Leaves.add_rows.Given as goal

abbrev pub invariant-loop : goal.invariant-loop
invariant-loop g l = record {
  pairs : l.self.pairs ≡ l.fn.self.pairs;
  rows : l.self.rows ≡ l.fn.self.rows;
  spare_rows : l.self.spare_rows ≡ l.counter;
}
