use Rattle.std.proofs.Common.{◌≡◌, ◌∙◌, sym, ap, rules, ltb, slice_get, ℕ, Bool}
use Rattle.blart.proofs.CallerLemmas.{one_out}
use Rattle.caller_tests.proofs.picking.take_below.Goals as goal

pub returns-clause-first : goal.returns-clause-first
returns-clause-first g c =
    let low : g.row.K.Denot × ℕ → Bool = λ p. ltb p.1 c.args.bound in
    let out = one_out _ c.extract_if-walk.result c.next.new.self _ c.next.ensures.steps (λ f. f.0.now ≡ c.args.bound) low (λ f k v b w h i t. rw (sym i) (search rules)) (search rules) g.K.AsBytes.bytes _ c.extract_if-walk.ensures.unchanged c.law.ensures.content in
    out.0 ∙ ap (λ l. slice_get l 0) (c.extract_if-walk.ensures.picks low)

pub returns-clause-left : goal.returns-clause-left
returns-clause-left g c =
    let low : g.row.K.Denot × ℕ → Bool = λ p. ltb p.1 c.args.bound in
    let out = one_out _ c.extract_if-walk.result c.next.new.self _ c.next.ensures.steps (λ f. f.0.now ≡ c.args.bound) low (λ f k v b w h i t. rw (sym i) (search rules)) (search rules) g.K.AsBytes.bytes _ c.extract_if-walk.ensures.unchanged c.law.ensures.content in
    rw (c.scores-1.given.1 (search rules)) out.1
