use Rattle.std.proofs.Common.{◌+◌, ◌%◌, ◌^◌, refl, ap, ◌∙◌, length, arith}
use Rattle.blart.specs.Words.{pairs}
use Rattle.caller_tests.proofs.lending.raise_below.Goals as goal

pub loop-value-smaller : goal.loop-value-smaller
loop-value-smaller g c =
    let h = c.next.follows.holds ((c.in-Some.value.now + 1) % 2 ^ 64) c.in-Some.value c.in-Some.is in
    let e = ap length h.1.splits in
    omega arith

pub loop-value-preserved : goal.loop-value-preserved
loop-value-preserved g c =
    let h = c.next.follows.holds ((c.in-Some.value.now + 1) % 2 ^ 64) c.in-Some.value c.in-Some.is in
    (h.0 ∙ c.loop-value.invariant.0, ap pairs (h.1.lent.all_written (λ p. (p.1 + 1) % 2 ^ 64) refl) ∙ c.loop-value.invariant.1)
