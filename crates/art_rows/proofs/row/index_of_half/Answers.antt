use Rattle.std.proofs.Common.{◌≡◌, ◌≢◌, true, arith}
use Rattle.art_rows.specs.Rows.{among, index_in}
use Rattle.art_rows.proofs.Blocks.{among-once, once_at}
use Rattle.art_rows.proofs.RowNumbers.{at_index}
use Rattle.art_rows.proofs.RowsLemmas.{index_in-within}
use Rattle.art_rows.proofs.row.index_of_half.Goals.{then-low-index, else-low-index}
use Rattle.art_rows.proofs.row.index_of_half.Goals as goal

pub overflow_cast-half : goal.overflow_cast-half
overflow_cast-half c =
    let xs = c.args.low.now in
    let a : among xs c.args.number ≡ true = among-once xs c.args.number (omega (arith, c.requires.once)) in
    let h = c.type_inv.low (index_in xs c.args.number) in
    rw (at_index xs c.args.number 0 a) at h

pub loop-index-preserved : goal.loop-index-preserved
loop-index-preserved c =
    let xs = c.args.low.now in
    let k = c.loop-index.index in
    elim c.if-low-index.branch [
      | then-low-index w ↦
          let q : index_in xs c.args.number ≡ k = once_at xs c.args.number k 0 c.requires.once (omega (arith, c.requires.long)) w.if-low-index.true in
          record { early = λ h. absurd (omega arith); late = λ h. (let e = c.loop-index.invariant.early (omega arith) in omega (arith, w.at-is)) }
      | else-low-index w ↦
          let a : among xs c.args.number ≡ true = among-once xs c.args.number (omega (arith, c.requires.once)) in
          let n : index_in xs c.args.number ≢ k = λ e. w.if-low-index.false (rw e at (at_index xs c.args.number 0 a)) in
          record { early = λ h. (let e = c.loop-index.invariant.early (omega arith) in omega (arith, w.at-is)); late = λ h. (let e = c.loop-index.invariant.late (omega arith) in omega (arith, w.at-is)) }
    ]

pub returns : goal.returns
returns c =
    let xs = c.args.low.now in
    let a : among xs c.args.number ≡ true = among-once xs c.args.number (omega (arith, c.requires.once)) in
    let l = index_in-within xs c.args.number a in
    c.loop-index.invariant.late (omega (arith, c.requires.long))
