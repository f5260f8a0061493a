use Rattle.std.proofs.Common.{◌≡◌, ◌≢◌, ℕ, length, map, refl, ap, ◌∙◌, arith}
use Rattle.std.proofs.lemmas.List.{take_all}
use Rattle.art_slots.proofs.BlocksOf.{block-take}
use Rattle.art_rows.specs.Cells.{HaveCells, cells_of}
use Rattle.art_rows.specs.Numbers.{Numbers}
use Rattle.art_rows.proofs.OwnedCells.{own_long, own_grown, own_numbered}
use Rattle.art_rows.proofs.OwnedRows.{owned_same, owned_more, same_now}
use Rattle.art_rows.proofs.rows.Rows.add_cells.Goals as goal

pub invariant_of-self : goal.invariant_of-self
invariant_of-self c =
    let i = c.self.inside in
    let e = take_all (length i.cells) i.cells (omega arith) in
    owned_same c.self.invariant i.cells c.grow.new.self (own_grown i.cells i.cells i.owners c.grow.new.self i.ready c.self.invariant.have e (omega arith) c.grow.ensures.same c.grow.ensures.grows)

pub invariant_of-self-in_err-grow-2 : goal.invariant_of-self-in_err-grow-2
invariant_of-self-in_err-grow-2 c =
    let i = c.self.inside in
    owned_same c.self.invariant c.grow-2.new.self c.grow.new.self (own_grown i.cells c.grow-2.new.self i.owners c.grow.new.self i.ready c.self.invariant.have c.grow-2.ensures.same c.grow-2.ensures.grows c.grow.ensures.same c.grow.ensures.grows)

pub returns-in_err-grow-2-clause-pairs : goal.returns-in_err-grow-2-clause-pairs
returns-in_err-grow-2-clause-pairs c =
    let i = c.self.inside in
    same_now c.self.invariant c.self.view_is c.grow-2.new.self (λ r l. block-take i.cells c.grow-2.new.self r (own_long c.self.invariant.have r l) c.grow-2.ensures.same)

pub loop-row-init : goal.loop-row-init
loop-row-init c =
    let i = c.self.inside in
    record {
      counts = refl;
      long = c.in_ok-grow-2.ensures.enough;
      wide = c.in_ok-grow.ensures.enough;
      have = own_grown i.cells c.grow-2.new.self i.owners c.grow.new.self i.ready c.self.invariant.have c.grow-2.ensures.same c.grow-2.ensures.grows c.grow.ensures.same c.grow.ensures.grows;
      blocks = λ j l. refl;
    }

pub loop-row-preserved : goal.loop-row-preserved
loop-row-preserved c =
    let v = c.loop-row.invariant in
    let i = c.loop-row.self-inside in
    let n = c.number_cells.ensures in
    record {
      counts = v.counts;
      long = omega (arith, v.long, n.long);
      wide = omega (arith, v.wide, n.wide);
      have = own_numbered i.cells c.number_cells.new.cells i.owners c.number_cells.new.owners c.loop-row.row v.have (omega (arith, v.long, n.long)) (omega (arith, v.wide, n.wide)) n.row n.rows n.owner n.owners;
      blocks = λ j l.
          let other : j ≢ c.loop-row.row = λ e. omega arith in
          n.rows j other ∙ v.blocks j l;
    }

pub invariant_of-self-2 : goal.invariant_of-self-2
invariant_of-self-2 c =
    let v = c.loop-row.invariant in
    let e : c.loop-row.row ≡ c.args.count = omega arith in
    let h : HaveCells c.loop-row.self-inside.cells c.loop-row.self-inside.owners c.args.count = rw e at v.have in
    owned_more c.self.invariant c.loop-row.self-inside.counts c.loop-row.self-inside.cells c.loop-row.self-inside.owners c.args.count v.counts (omega arith) h

pub returns-clause-pairs : goal.returns-clause-pairs
returns-clause-pairs c =
    let i = c.self.inside in
    let v = c.loop-row.invariant in
    ap (λ ps. map (cells_of c.loop-row.self-inside.cells) ps) (ap (λ (t : Numbers ℕ). t.pairs) v.counts)
    ∙ same_now c.self.invariant c.self.view_is c.loop-row.self-inside.cells (λ r l. v.blocks r l ∙ block-take i.cells c.grow-2.new.self r (own_long c.self.invariant.have r l) c.grow-2.ensures.same)
