use Rattle.std.proofs.Common.{◌≡◌, ◌≢◌, ℕ, ◌<◌, ◌++◌, take, drop}
use Rattle.art_slots.specs.Words.{block_at}
use Rattle.art_rows.specs.Cells.{HaveCells}
use Rattle.art_rows.proofs.rows.exchange_halves.Given as goal

abbrev pub invariant-loop-index : goal.invariant-loop-index
invariant-loop-index l = record {
  row : block_at l.cells l.row ≡ take 32 (block_at l.fn.cells l.row) ++ (take l.index (block_at l.fn.cells l.new) ++ drop l.index (drop 32 (block_at l.fn.cells l.row)));
  new : block_at l.cells l.new ≡ take l.index (drop 32 (block_at l.fn.cells l.row)) ++ drop l.index (block_at l.fn.cells l.new);
  rows : (j : ℕ) → j ≢ l.row → j ≢ l.new → block_at l.cells j ≡ block_at l.fn.cells j;
  own : (ready : ℕ) → l.row < ready → l.new < ready → HaveCells l.fn.cells l.fn.owners ready → HaveCells l.cells l.owners ready;
}
