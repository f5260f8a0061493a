use Rattle.std.proofs.Common.{ap, refl, ◌∙◌}
use Rattle.art_slots.specs.Words.{block_at, times}
use Rattle.art_slots.proofs.Moves.{times-moved_down, block-same, low-moves_down, both-move_down, low_here, within_block, same-length}
use Rattle.art_slots.proofs.words.Words.move_down.Goals as goal

pub move_down-requires-clause-block : goal.move_down-requires-clause-block
move_down-requires-clause-block c = low_here c.self.inside.low c.self.inside.high c.args.block (rw (← c.self.view_is) at c.requires.block)

pub returns-then-has_block-clause-moved : goal.returns-then-has_block-clause-moved
returns-then-has_block-clause-moved c =
    let low = c.self.inside.low in
    let high = c.self.inside.high in
    let i = c.args.block in
    let here = rw (← c.self.view_is) at c.requires.block in
    rw (← c.self.view_is) (both-move_down low c.move_down.new.self high c.move_down-then-has_block.new.self i c.args.from c.args.to (low_here low high i here) (c.has_block.ensures.here c.if-has_block.true) c.requires.order c.requires.within c.move_down.ensures.moved c.move_down-then-has_block.ensures.moved)

pub returns-then-has_block-clause-same : goal.returns-then-has_block-clause-same
returns-then-has_block-clause-same c n =
    ap (λ ns. times ns n) (returns-then-has_block-clause-moved c)
    ∙ times-moved_down (block_at c.args.self.now c.args.block) c.args.from c.args.to c.requires.order (within_block c.args.self.now c.args.block c.args.from c.requires.block c.requires.within) n

pub returns-then-has_block-clause-others : goal.returns-then-has_block-clause-others
returns-then-has_block-clause-others c j ne =
    rw (← c.self.view_is) (block-same c.self.inside.low c.move_down.new.self c.self.inside.high c.move_down-then-has_block.new.self j (c.move_down.ensures.others j ne) (c.move_down-then-has_block.ensures.others j ne))

pub returns-then-has_block-clause-len : goal.returns-then-has_block-clause-len
returns-then-has_block-clause-len c =
    rw (← c.self.view_is) (same-length c.self.inside.low c.move_down.new.self c.self.inside.high c.move_down-then-has_block.new.self c.move_down.ensures.len)

pub returns-else-has_block-clause-moved : goal.returns-else-has_block-clause-moved
returns-else-has_block-clause-moved c =
    let low = c.self.inside.low in
    let high = c.self.inside.high in
    let i = c.args.block in
    rw (← c.self.view_is) (low-moves_down low c.move_down.new.self high i c.args.from c.args.to (c.has_block.ensures.past c.if-has_block.false) c.move_down.ensures.moved)

pub returns-else-has_block-clause-same : goal.returns-else-has_block-clause-same
returns-else-has_block-clause-same c n =
    ap (λ ns. times ns n) (returns-else-has_block-clause-moved c)
    ∙ times-moved_down (block_at c.args.self.now c.args.block) c.args.from c.args.to c.requires.order (within_block c.args.self.now c.args.block c.args.from c.requires.block c.requires.within) n

pub returns-else-has_block-clause-others : goal.returns-else-has_block-clause-others
returns-else-has_block-clause-others c j ne =
    rw (← c.self.view_is) (block-same c.self.inside.low c.move_down.new.self c.self.inside.high c.self.inside.high j (c.move_down.ensures.others j ne) refl)

pub returns-else-has_block-clause-len : goal.returns-else-has_block-clause-len
returns-else-has_block-clause-len c =
    rw (← c.self.view_is) (same-length c.self.inside.low c.move_down.new.self c.self.inside.high c.self.inside.high c.move_down.ensures.len)
