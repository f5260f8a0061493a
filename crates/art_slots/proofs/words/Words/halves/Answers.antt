use Rattle.std.proofs.Common.{sym, ◌∙◌}
use Rattle.art_slots.specs.Words.{block_at}
use Rattle.art_slots.proofs.Numbers.{numbers-low, numbers-block}
use Rattle.art_slots.proofs.Moves.{block-low, low_here}
use Rattle.art_slots.proofs.words.Words.halves.Goals as goal

pub block-low-requires : goal.block-low-requires
block-low-requires c = low_here c.self.inside.low c.self.inside.high c.args.block (rw (← c.self.view_is) at c.requires)

pub returns-then-has_block : goal.returns-then-has_block
returns-then-has_block c =
    rw (← c.self.view_is, c.block-low.ensures, c.block.ensures) (numbers-block c.self.inside.low c.self.inside.high c.args.block)

pub returns-else-has_block : goal.returns-else-has_block
returns-else-has_block c =
    let low = c.self.inside.low in
    let high = c.self.inside.high in
    let i = c.args.block in
    rw (← c.self.view_is, c.block-low.ensures) (
    numbers-low (block_at low i)
    ∙ sym (block-low low high i (c.has_block.ensures.past c.if-has_block.false))
    )
