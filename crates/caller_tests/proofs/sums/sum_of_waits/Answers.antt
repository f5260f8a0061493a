use Rattle.std.proofs.Common.{◌≡◌, ◌∙◌, ◌+◌, ap, sum, map, ℕ, List, ◌∷◌, arith, subst}
use Rattle.std.proofs.lemmas.Grind.{common_steps}
use Rattle.std.specs.declared.ops.Bound.TheVariants.{Included, Unbounded}
use Rattle.blart.specs.Words.{pairs, bytes, between}
use Rattle.caller_tests.proofs.sums.sum_of_waits.Goals as goal

-- the sum of the first is still to come, and then that of the others
first_to_come : {X : Type 0} (f : X → ℕ) (total whole own : ℕ) (x : X) (rest all : List X) → all ≡ x ∷ rest → own ≡ f x → total + sum (map f all) ≡ whole → total + own + sum (map f rest) ≡ whole
first_to_come f total whole own x rest all e o h =
    let c : sum (map f (x ∷ rest)) ≡ f x + sum (map f rest) = grind (arith, common_steps) in
    let t : total + sum (map f (x ∷ rest)) ≡ whole = subst (λ l. total + sum (map f l) ≡ whole) e h in
    omega (arith, c, t, o)

pub loop-later-init : goal.loop-later-init
loop-later-init g c =
    let kb = g.K.AsBytes.bytes in
    let waits : g.row.K.Denot × ℕ → ℕ = λ p. sum (map (λ q. q.1) (between (bytes kb) (pairs c.args.times.now) (Included (kb p.0)) Unbounded)) in
    let own = ap (λ b. sum (map (λ q. q.1) (between (bytes kb) (pairs c.args.times.now) (Included b) Unbounded))) c.as_bytes-own.ensures in
    let mine = ap (λ l. sum (map (λ (q : g.row.K.Denot × ℕ). q.1) l)) (c.into_iter-later-iterator.ensures.into_iter_gives ∙ c.range-later-items.ensures.value) ∙ own in
    first_to_come waits c.loop-pair.total _ _ _ _ _ c.in-Some.ensures.steps mine c.loop-pair.invariant
