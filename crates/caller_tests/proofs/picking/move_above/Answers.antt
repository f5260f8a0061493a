use Rattle.std.proofs.Common.{◌≡◌, ◌∙◌, true, false, leb, ap, sym, subst, refl, length, arith, lit<, rules}
use Rattle.std.specs.Option.{is_some}
use Rattle.blart.specs.Words.{pairs, bytes, kept_pair, pair_at, PutsAll, take_left}
use Rattle.blart.proofs.CallerLemmas.{walk_kept, walk_taken, none_to_take}
use Rattle.caller_tests.proofs.picking.move_above.Goals as goal

pub keep-requires : goal.keep-requires
keep-requires g c = (lit< tt, ap is_some (c.lend.follows.holds c.in-Some.value.now c.in-Some.value c.in-Some.is).1.is_last)

pub take-key-requires : goal.take-key-requires
take-key-requires g c = (lit< tt, ap is_some (c.lend.follows.holds c.in-Some.value.now c.in-Some.value c.in-Some.is).1.is_last)

pub loop-value-smaller-then-value-bound : goal.loop-value-smaller-then-value-bound
loop-value-smaller-then-value-bound g c =
    let h = c.lend.follows.holds c.in-Some.value.now c.in-Some.value c.in-Some.is in
    let e = ap length h.1.splits in
    let f = ap length c.keep.ensures.same_left in
    omega (arith, e, f)

pub loop-value-smaller : goal.loop-value-smaller
loop-value-smaller g c =
    let h = c.lend.follows.holds c.in-Some.value.now c.in-Some.value c.in-Some.is in
    let e = ap length h.1.splits in
    let f = ap length c.take-key.ensures.same_left in
    omega (arith, e, f)

pub loop-value-preserved-then-value-bound : goal.loop-value-preserved-then-value-bound
loop-value-preserved-then-value-bound g c =
    let h = c.lend.follows.holds c.in-Some.value.now c.in-Some.value c.in-Some.is in
    let below : leb c.args.bound c.in-Some.value.now ≡ false = search rules in
    let kept = walk_kept (λ p. leb c.args.bound p.1) c.loop-value.walk (c.lend.follows.lender c.in-Some.value.now) c.keep.new.self c.in-Some.value.now h.1 c.keep.ensures.same_left below c.keep.ensures.unchanged in (
      c.keep.ensures.same_map ∙ h.0 ∙ c.loop-value.invariant.0,
      kept.0 ∙ c.loop-value.invariant.1,
      c.keep.ensures.decided,
      λ T p. c.loop-value.invariant.3 T (subst (λ l. PutsAll (bytes g.K.AsBytes.bytes) kept_pair (pairs c.loop-value.to) l T) kept.1 p),
    )

pub loop-value-preserved : goal.loop-value-preserved
unfolding pair_at
loop-value-preserved g c =
    let h = c.lend.follows.holds c.in-Some.value.now c.in-Some.value c.in-Some.is in
    let above : leb c.args.bound c.in-Some.value.now ≡ true = search rules in
    let taken = walk_taken (λ p. leb c.args.bound p.1) c.loop-value.walk (c.lend.follows.lender c.in-Some.value.now) c.take-key.new.self c.in-Some.value.now h.1 c.take-key.ensures.same_left above c.take-key.result c.take-key.ensures.taken in (
      c.take-key.ensures.same_map ∙ h.0 ∙ c.loop-value.invariant.0,
      taken.0 ∙ c.loop-value.invariant.1,
      c.take-key.ensures.decided,
      λ T p. c.loop-value.invariant.3 T (subst (λ l. PutsAll (bytes g.K.AsBytes.bytes) kept_pair (pairs c.loop-value.to) l T) (sym taken.1) (pairs c.insert.new.self, c.in_ok-insert.ensures.put.0, p)),
    )

pub returns-clause-moved : goal.returns-clause-moved
returns-clause-moved g c =
    let none = none_to_take (λ p. leb c.args.bound p.1) (take_left c.loop-value.walk) c.in_default.ensures.end in
    c.loop-value.invariant.3 (pairs c.loop-value.to) (subst (λ l. PutsAll (bytes g.K.AsBytes.bytes) kept_pair (pairs c.loop-value.to) l (pairs c.loop-value.to)) (sym none) refl)
