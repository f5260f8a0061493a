use Rattle.std.proofs.Common.{◌≡◌, ℕ, ◌*◌, ◌<◌, ◌≤◌, length}
use Rattle.art_slots.specs.Words.{block_at}
use Rattle.art_rows.specs.Cells.{HaveCells}
use Rattle.art_rows.proofs.rows.Rows.add_cells.Given as goal

abbrev pub invariant-loop-row : goal.invariant-loop-row
invariant-loop-row l = record {
  counts : l.self-inside.counts ≡ l.initial.self-inside.counts;
  long : 64 * l.count ≤ length l.self-inside.cells;
  wide : 64 * l.count ≤ length l.self-inside.owners;
  have : HaveCells l.self-inside.cells l.self-inside.owners l.row;
  blocks : (j : ℕ) → j < l.initial.self-inside.ready → block_at l.self-inside.cells j ≡ block_at l.initial.self-inside.cells j;
}
