use Rattle.std.proofs.Common.{◌<◌, length, sym, arith}
use Rattle.art_slots.proofs.Numbers.{length-numbers, at-low, at-both}
use Rattle.art_slots.proofs.words.Words.read.Goals as goal

within : (c : goal.After-self) → c.args.i < length c.self.inside.low
within c =
    let l = rw (← c.self.view_is) at c.requires in
    omega (arith, length-numbers c.self.inside.low c.self.inside.high)

pub read-low-requires : goal.read-low-requires
read-low-requires c = within c

pub returns-then-i-len : goal.returns-then-i-len
returns-then-i-len c =
    let l = rw (← c.self.view_is) at c.requires in
    let n = length-numbers c.self.inside.low c.self.inside.high in
    let h = c.len.ensures.len in
    let t = c.if-i-len.true in
    rw (← c.self.view_is, c.read-low.ensures, c.read.ensures) (sym (at-both c.self.inside.low c.self.inside.high c.args.i (omega arith) (omega arith)))

pub returns-else-i-len : goal.returns-else-i-len
returns-else-i-len c =
    let h = c.len.ensures.len in
    let f = c.if-i-len.false in
    rw (← c.self.view_is, c.read-low.ensures) (sym (at-low c.self.inside.low c.self.inside.high c.args.i (omega arith)))
