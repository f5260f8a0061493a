use Rattle.std.proofs.Common.{◌≡◌, ◌+◌, ◌*◌, ◌^◌, ◌<◌, ◌≤◌, ℕ, length, take, sym, ap, subst, ◌∙◌, List}
use Rattle.art_slots.proofs.BlocksOf.{length-block}
use Rattle.art_slots.specs.Words.{block_at, times, numbers as words}
use Rattle.art_rows.specs.Cells.{IsRow}
use Rattle.art_rows.proofs.RowNumbers.{length-words}
use Rattle.art_rows.proofs.rows.row_at.Goals as goal

is_row : (cells low high : List ℕ) (row count : ℕ) → 64 * row + 64 ≤ length cells → count ≤ 64 → words low high ≡ block_at cells row → ((n : ℕ) → times (block_at cells row) n ≤ 1) → ((n : ℕ) → 0 < times (block_at cells row) n → n < 2 ^ 61) → IsRow low high count
is_row cells low high row count l c e once small = record {
  long = sym (length-words low high) ∙ ap length e ∙ length-block cells row l;
  within = c;
  once = subst (λ ns. (n : ℕ) → times ns n ≤ 1) (sym e) once;
  small = subst (λ ns. (n : ℕ) → 0 < times ns n → n < 2 ^ 61) (sym e) small;
}

pub new-requires : goal.new-requires
new-requires c =
    is_row c.args.cells.now c.halves.result.0.now c.halves.result.1.now c.args.row c.args.count c.requires.within c.requires.count c.halves.ensures c.requires.once c.requires.small

pub returns : goal.returns
returns c =
    c.new.ensures ∙ ap (take c.args.count) c.halves.ensures
