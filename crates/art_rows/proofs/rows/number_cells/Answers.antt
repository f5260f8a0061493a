use Rattle.std.proofs.Common.{◌≡◌, ◌<◌, ℕ, ◌+◌, ◌*◌, List, length, get_or, set, refl, ap, ◌∙◌, inl, inr, arith}
use Rattle.std.proofs.lemmas.Bool.{cases_eq}
use Rattle.std.proofs.lemmas.List.{length-set, get_or-set_same, get_or-set_other}
use Rattle.art_slots.specs.Words.{block_at}
use Rattle.art_slots.proofs.BlocksOf.{length-block, block-set-same, block-set-other}
use Rattle.art_rows.proofs.rows.number_cells.Goals as goal

-- one more index of a list has its number
filled : (xs : List ℕ) (f : ℕ → ℕ) (k v : ℕ) → k < length xs → v ≡ f k → ((i : ℕ) → i < k → get_or xs i 0 ≡ f i) → (i : ℕ) → i < k + 1 → get_or (set xs k v) i 0 ≡ f i
filled xs f k v l e h i lt = elim (cases_eq i k) [
  | inl s ↦ rw s (get_or-set_same xs k v 0 l ∙ e)
  | inr s ↦ get_or-set_other xs k i v 0 s ∙ h i (omega arith)
]

-- one more index of a list, from a start on, has this number
filled_from : (xs : List ℕ) (a k v : ℕ) → a + k < length xs → ((i : ℕ) → i < k → get_or xs (a + i) 0 ≡ v) → (i : ℕ) → i < k + 1 → get_or (set xs (a + k) v) (a + i) 0 ≡ v
filled_from xs a k v l h i lt = elim (cases_eq i k) [
  | inl s ↦ rw s (get_or-set_same xs (a + k) v 0 l)
  | inr s ↦ get_or-set_other xs (a + k) (a + i) v 0 (λ e. s (omega arith)) ∙ h i (omega arith)
]

pub loop-index-preserved : goal.loop-index-preserved
loop-index-preserved c =
    let i = c.loop-index.invariant in
    let k = c.loop-index.index in
    let r = c.args.row in
    let b = length-block c.loop-index.cells r (omega (arith, i.long, c.requires.cells)) in
    record {
      long = ap length c.write.ensures ∙ length-set c.loop-index.cells (64 * r + k) (64 * r + k) ∙ i.long;
      wide = ap length c.write-in-loop-index.ensures ∙ length-set c.loop-index.owners (64 * r + k) r ∙ i.wide;
      row = λ j l. ap (λ ns. get_or (block_at ns r) j 0) c.write.ensures ∙ ap (λ ns. get_or ns j 0) (block-set-same c.loop-index.cells r k (64 * r + k) (omega arith)) ∙ filled (block_at c.loop-index.cells r) (λ n. 64 * r + n) k (64 * r + k) (omega arith) refl i.row j l;
      rows = λ j n. ap (λ ns. block_at ns j) c.write.ensures ∙ block-set-other c.loop-index.cells r j k (64 * r + k) (omega arith) n ∙ i.rows j n;
      owner = λ j l. ap (λ ns. get_or ns (64 * r + j) 0) c.write-in-loop-index.ensures ∙ filled_from c.loop-index.owners (64 * r) k r (omega (arith, i.wide, c.requires.owners)) i.owner j l;
      owners = λ n l. ap (λ ns. get_or ns n 0) c.write-in-loop-index.ensures ∙ get_or-set_other c.loop-index.owners (64 * r + k) n r 0 (omega arith) ∙ i.owners n l;
    }
