use Rattle.std.proofs.Common.{◌≡◌, ◌<◌, ◌+◌, ◌*◌, ◌/◌, ◌%◌, ◌^◌, set, inl, inr, ap, ◌∙◌, arith, rules}
use Rattle.art_slots.proofs.Numbers.{length-numbers, set-low, set-both}
use Rattle.art_slots.specs.contracts.words.Words.{the_view}
use Rattle.art_slots.proofs.words.Words.write.Goals as goal

pub write-requires : goal.write-requires
write-requires c =
    let l = rw (← c.self.view_is) at c.requires.within in
    omega (arith, length-numbers c.self.inside.low c.self.inside.high)

-- if there is no high half, the word is less than 2^32
short : (c : goal.After-write-arg-else-i-len-1) → c.args.word < 2 ^ 32
short c =
    let l = rw (← c.self.view_is) at c.requires.within in
    let s = rw (← c.self.view_is) at c.requires.small in
    let n = length-numbers c.self.inside.low c.self.inside.high in
    let h = c.len.ensures.len in
    let f = c.if-i-len.false in
    elim c.self.invariant [
      | inl few ↦ omega arith
      | inr many ↦ absurd (omega arith)
    ]

pub overflow_cast-word-else-i-len : goal.overflow_cast-word-else-i-len
overflow_cast-word-else-i-len c = let s = short c in search rules

pub write-requires-else-i-len : goal.write-requires-else-i-len
write-requires-else-i-len c =
    let l = rw (← c.self.view_is) at c.requires.within in
    omega (arith, length-numbers c.self.inside.low c.self.inside.high)

pub returns-then-i-len : goal.returns-then-i-len
returns-then-i-len c =
    let h = c.len.ensures.len in
    let t = c.if-i-len.true in
    let w = c.args.word in
    let e : w % 2 ^ 32 + w / 2 ^ 32 * 2 ^ 32 ≡ w = omega arith in
    rw (← c.self.view_is, c.write.ensures, c.write-then-i-len.ensures) (
    set-both c.self.inside.low c.self.inside.high c.args.i (w % 2 ^ 32) (w / 2 ^ 32) (omega arith)
    ∙ ap (λ n. set (the_view c.self.inside) c.args.i n) e
    )

pub returns-else-i-len : goal.returns-else-i-len
returns-else-i-len c =
    let h = c.len.ensures.len in
    let f = c.if-i-len.false in
    rw (← c.self.view_is, c.write-else-i-len.ensures) (set-low c.self.inside.low c.self.inside.high c.args.i c.args.word (omega arith))
