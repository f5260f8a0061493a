use Rattle.std.proofs.Common.{refl, sym, ap, ◌∙◌, length, lit<, arith}
use Rattle.std.specs.Prelude.{is_some}
use Rattle.blart.specs.Words.{pairs}
use Rattle.blart.proofs.CallerLemmas.{pair_written}
use Rattle.caller_tests.proofs.lending.measure_below.Goals as goal

pub pair-value-requires : goal.pair-value-requires
pair-value-requires g c =
    let h = c.next.follows.holds c.in-Some._seen.now c.in-Some._seen c.in-Some.is in
    (lit< tt, ap is_some h.1.is_last)

pub loop-seen-smaller : goal.loop-seen-smaller
loop-seen-smaller g c =
    let h = c.next.follows.holds c.in-Some._seen.now c.in-Some._seen c.in-Some.is in
    let e = ap length h.1.splits in
    let same = ap length (c.pair-value.ensures.same_left (length c.as_bytes.result.now)) in
    omega arith

pub loop-seen-preserved : goal.loop-seen-preserved
loop-seen-preserved g c =
    let h = c.next.follows.holds c.in-Some._seen.now c.in-Some._seen c.in-Some.is in
    let r = pair_written _ _ _ _ _ _ _ _ _ (length c.as_bytes.result.now) _ _ c.pair-value.ensures.value refl (c.pair-value.ensures.same_left (length c.as_bytes.result.now)) h.1 in
    let is = ap (λ k. length (g.K.AsBytes.bytes k)) r.1 ∙ sym (ap length c.as_bytes.ensures) in
    (h.0 ∙ c.loop-seen.invariant.0, ap pairs (r.0.lent.all_written (λ p. length (g.K.AsBytes.bytes p.0)) is) ∙ c.loop-seen.invariant.1)
