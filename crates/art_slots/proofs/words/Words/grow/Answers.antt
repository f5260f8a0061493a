use Rattle.std.proofs.Common.{◌≡◌, length, take, ap, sym, ◌∙◌, arith}
use Rattle.std.proofs.Math.Seq.{take-length}
use Rattle.std.proofs.lemmas.Result.{on_ok_weaker}
use Rattle.art_slots.specs.Words.{numbers}
use Rattle.art_slots.proofs.Numbers.{length-numbers, zeros-high, take-numbers}
use Rattle.art_slots.proofs.words.Words.grow.Goals.{then-blocks-gt-LOW_BLOCKS+in_ok-grow, else-blocks-gt-LOW_BLOCKS}
use Rattle.art_slots.proofs.words.Words.grow.Goals as goal

-- the numbers are unchanged if zeros were added to the high halves and that failed
unchanged : (c : goal.After-from_residual) → numbers c.self.inside.low c.grow.new.self ≡ c.args.self.now
unchanged c =
    ap (numbers c.self.inside.low) c.grow.ensures.zeros ∙ zeros-high c.self.inside.low c.self.inside.high _ ∙ c.self.view_is

pub returns-in_err-grow-clause-same : goal.returns-in_err-grow-clause-same
returns-in_err-grow-clause-same c = rw (unchanged c) (take-length c.args.self.now)

pub returns-in_err-grow-clause-grows : goal.returns-in_err-grow-clause-grows
returns-in_err-grow-clause-grows c = rw (unchanged c) (omega arith)

-- the numbers are unchanged before the low halves grow
kept : (c : goal.After-grow-2) → numbers c.if-blocks-gt-LOW_BLOCKS.self-inside.low c.if-blocks-gt-LOW_BLOCKS.self-inside.high ≡ c.args.self.now
kept c = elim c.if-blocks-gt-LOW_BLOCKS.branch [
  | then-blocks-gt-LOW_BLOCKS+in_ok-grow w ↦ rw w.self-inside-is (ap (numbers c.self.inside.low) w.grow.ensures.zeros ∙ zeros-high c.self.inside.low c.self.inside.high _ ∙ c.self.view_is)
  | else-blocks-gt-LOW_BLOCKS w ↦ rw w.self-inside-is c.self.view_is
]

-- there are as many low halves as numbers
long : (c : goal.After-grow-2) → length c.if-blocks-gt-LOW_BLOCKS.self-inside.low ≡ length c.args.self.now
long c = sym (length-numbers c.if-blocks-gt-LOW_BLOCKS.self-inside.low c.if-blocks-gt-LOW_BLOCKS.self-inside.high) ∙ ap length (kept c)

pub returns-clause-same : goal.returns-clause-same
returns-clause-same c =
    let low = c.if-blocks-gt-LOW_BLOCKS.self-inside.low in
    let high = c.if-blocks-gt-LOW_BLOCKS.self-inside.high in
    ap (λ n. take n (numbers c.grow-2.new.self high)) (sym (long c))
    ∙ ap (λ ls. take (length low) (numbers ls high)) c.grow-2.ensures.zeros ∙ take-numbers low _ high ∙ kept c

pub returns-clause-grows : goal.returns-clause-grows
returns-clause-grows c =
    omega (arith, long c, c.grow-2.ensures.grows, length-numbers c.grow-2.new.self c.if-blocks-gt-LOW_BLOCKS.self-inside.high)

pub returns-clause-enough : goal.returns-clause-enough
returns-clause-enough c =
    let n = length-numbers c.grow-2.new.self c.if-blocks-gt-LOW_BLOCKS.self-inside.high in
    let f = c.if-count-len.false in
    on_ok_weaker c.grow-2.result (λ e. omega arith) c.grow-2.ensures.enough

pub returns-in_err-grow-clause-most : goal.returns-in_err-grow-clause-most
returns-in_err-grow-clause-most c = rw (unchanged c) (omega arith)

pub returns-clause-most : goal.returns-clause-most
returns-clause-most c =
    let n = length-numbers c.grow-2.new.self c.if-blocks-gt-LOW_BLOCKS.self-inside.high in
    let f = c.if-count-len.false in
    let m = c.grow-2.ensures.most in
    let l = long c in
    omega arith
