use Rattle.std.proofs.Common.{◌≡◌, ◌*◌, length, ap, sym, ◌∙◌, subst, Ok, Err, arith}
use Rattle.std.specs.Prelude.{Result, OnErr}
use Rattle.std.proofs.lemmas.Result.{on_ok_weaker}
use Rattle.art_slots.specs.Halves.{joined, AreWhole}
use Rattle.art_slots.proofs.Blocks.{length-joined, whole-more, zeros-more}
use Rattle.art_slots.proofs.halves.Halves.grow.Goals as goal

-- a fact that holds also holds if there is an error
on_err : {A E P : Type 0} (r : Result A E) → P → OnErr r P
on_err (Ok x) p = tt
on_err (Err e) p = p

-- the blocks are whole after memory was reserved
whole : (c : goal.After-add_zeros) → AreWhole c.reserve.new.self.items
whole c = subst AreWhole (sym c.in_ok-reserve.ensures.items) c.self.invariant.0

-- the list is unchanged then
same : (c : goal.After-add_zeros) → joined c.reserve.new.self.items ≡ c.args.self.now
same c = ap joined c.in_ok-reserve.ensures.items ∙ c.self.view_is

-- the number of blocks is unchanged
long : (c : goal.After-add_zeros) → length c.reserve.new.self.items ≡ c.len-len.result
long c = ap length c.in_ok-reserve.ensures.items ∙ sym c.len-len.ensures

-- the length of the list at the end
length-new : (c : goal.After-add_zeros) → length (joined c.add_zeros.new.blocks.items) ≡ length c.add_zeros.new.blocks.items * 64
length-new c = length-joined _ (whole-more _ _ _ c.add_zeros.ensures.adds (whole c))

pub returns-then-count-len-clause-enough : goal.returns-then-count-len-clause-enough
returns-then-count-len-clause-enough c =
    let n = length-joined c.self.inside.blocks.items c.self.invariant.0 in
    let e = c.len-len.ensures in
    let t = c.if-count-len.true in
    rw (← c.self.view_is) (omega arith)

pub returns-clause-zeros : goal.returns-clause-zeros
returns-clause-zeros c = rw (← same c) (zeros-more _ _ _ c.add_zeros.ensures.adds)

pub returns-clause-enough : goal.returns-clause-enough
returns-clause-enough c =
    let l = long c in
    let f = c.if-count-len.false in
    let n = length-new c in
    on_ok_weaker c.add_zeros.result (λ e. omega arith) c.add_zeros.ensures.all

pub returns-clause-most : goal.returns-clause-most
returns-clause-most c =
    let l = long c in
    let f = c.if-count-len.false in
    let n = length-new c in
    let m = c.add_zeros.ensures.adds.most in
    omega arith

pub returns-then-count-gt-MOST_BLOCKS-clause-needed : goal.returns-then-count-gt-MOST_BLOCKS-clause-needed
returns-then-count-gt-MOST_BLOCKS-clause-needed c =
    let n = length-joined c.self.inside.blocks.items c.self.invariant.0 in
    let e = c.len-len.ensures in
    let f = c.if-count-len.false in
    rw (← c.self.view_is) (omega arith)

pub returns-in_err-reserve-clause-needed : goal.returns-in_err-reserve-clause-needed
returns-in_err-reserve-clause-needed c =
    let n = length-joined c.self.inside.blocks.items c.self.invariant.0 in
    let e = c.len-len.ensures in
    let f = c.if-count-len.false in
    rw (← c.self.view_is) (on_err c.from_residual.result (omega arith))

pub returns-clause-needed : goal.returns-clause-needed
returns-clause-needed c =
    let n = length-joined c.self.inside.blocks.items c.self.invariant.0 in
    let e = c.len-len.ensures in
    let f = c.if-count-len.false in
    rw (← c.self.view_is) (on_err c.add_zeros.result (omega arith))
