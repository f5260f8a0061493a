use Rattle.std.proofs.Common.{◌≡◌, ◌∙◌, ◌++◌, ℕ, Bool, ltb, ap, sym, refl, length, arith, rules, Some, None, append_assoc, append-nil}
use Rattle.std.proofs.lemmas.List.{nil_from_length}
use Rattle.std.proofs.lemmas.List.Sums.{length-filter, count_by-le-length}
use Rattle.blart.specs.Words.{pairs, still_to_extract}
use Rattle.blart.proofs.CallerLemmas.{extracted}
use Rattle.caller_tests.proofs.picking.drain_below.Goals as goal
use Rattle.caller_tests.proofs.picking.drain_below.Goals.{in-None, in-Some+in-None-next}

pub loop-init : goal.loop-init
loop-init g c =
    let low : g.row.K.Denot × ℕ → Bool = λ p. ltb p.1 c.args.bound in
    let picks = c.extract_if-walk.ensures.picks low in
    let same = ap length picks in
    let parts = length-filter low (pairs c.args.scores.now) in
    let few = count_by-le-length low (pairs c.args.scores.now) in
    let count = c.len-count.ensures in
    let repeats = c.repeat_n-items.ensures.count in
    let turns = ap (λ r. r.n) c.into_iter-iterator.ensures.into_iter_gives in (
      tt,
      tt,
      refl,
      search rules,
      ap (λ l. l ++ still_to_extract low c.extract_if-walk.result) c.new-low.ensures.items ∙ picks,
      omega (arith, same, parts, few, count, repeats, turns),
    )

pub loop-preserved : goal.loop-preserved
loop-preserved g c =
    let low : g.row.K.Denot × ℕ → Bool = λ p. ltb p.1 c.args.bound in
    let next = c.next-in-loop.new.self in
    let step = extracted _ c.loop.walk next (Some c.in-Some-next.pair) c.in-Some-next.ensures.steps (λ f. f.0.now ≡ c.args.bound) low (λ f k v b w h i t. rw (sym i) (search rules)) c.loop.invariant.3 in
    let fewer = ap length step.1 in
    let turns = c.in-Some.ensures.steps.1.1 in
    let most = c.loop.invariant.5 in (
      tt,
      tt,
      c.in-Some-next.ensures.steps.0 ∙ c.loop.invariant.2,
      step.2,
      ap (λ l. l ++ still_to_extract low next) c.in_ok-push-in-Some-next.ensures.items ∙ append_assoc c.loop.low.items _ (still_to_extract low next) ∙ ap (λ l. c.loop.low.items ++ l) (sym step.1) ∙ c.loop.invariant.4,
      omega (arith, fewer, turns, most),
    )

pub returns : goal.returns
returns g c =
    let low : g.row.K.Denot × ℕ → Bool = λ p. ltb p.1 c.args.bound in
    elim c.match-next.branch [
      | in-None w ↦
          let turns = w.in-None.ensures.steps.1.0 in
          let most = c.loop.invariant.5 in
          let none = nil_from_length (still_to_extract low c.loop.walk) (omega (arith, turns, most)) in
          sym (append-nil c.loop.low.items) ∙ ap (λ l. c.loop.low.items ++ l) (sym none) ∙ c.loop.invariant.4
      | in-Some+in-None-next w ↦
          let step = extracted _ c.loop.walk w.next-in-loop.new.self None w.in-None-next.ensures.steps (λ f. f.0.now ≡ c.args.bound) low (λ f k v b w h i t. rw (sym i) (search rules)) c.loop.invariant.3 in
          sym (append-nil c.loop.low.items) ∙ ap (λ l. c.loop.low.items ++ l) (sym step.1.0) ∙ c.loop.invariant.4
    ]
