use Rattle.std.proofs.Common.{◌≡◌, ◌≢◌, ℕ, ◌+◌, ◌*◌, ◌<◌, length, get_or}
use Rattle.art_slots.specs.Words.{block_at}
use Rattle.art_rows.proofs.rows.number_cells.Given as goal

abbrev pub invariant-loop-index : goal.invariant-loop-index
invariant-loop-index l = record {
  long : length l.cells ≡ length l.fn.cells;
  wide : length l.owners ≡ length l.fn.owners;
  row : (i : ℕ) → i < l.index → get_or (block_at l.cells l.row) i 0 ≡ 64 * l.row + i;
  rows : (j : ℕ) → j ≢ l.row → block_at l.cells j ≡ block_at l.fn.cells j;
  owner : (i : ℕ) → i < l.index → get_or l.owners (64 * l.row + i) 0 ≡ l.row;
  owners : (n : ℕ) → n < 64 * l.row → get_or l.owners n 0 ≡ get_or l.fn.owners n 0;
}
