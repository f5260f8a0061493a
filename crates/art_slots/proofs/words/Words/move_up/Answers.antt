use Rattle.std.proofs.Common.{ap, refl, ◌∙◌}
use Rattle.art_slots.specs.Words.{block_at, times}
use Rattle.art_slots.proofs.Moves.{times-moved_up, block-same, low-moves_up, both-move_up, low_here, within_block, same-length}
use Rattle.art_slots.proofs.words.Words.move_up.Goals as goal

pub move_up-requires-clause-block : goal.move_up-requires-clause-block
move_up-requires-clause-block c = low_here c.self.inside.low c.self.inside.high c.args.block (rw (← c.self.view_is) at c.requires.block)

pub returns-then-has_block-clause-moved : goal.returns-then-has_block-clause-moved
returns-then-has_block-clause-moved c =
    let low = c.self.inside.low in
    let high = c.self.inside.high in
    let i = c.args.block in
    let here = rw (← c.self.view_is) at c.requires.block in
    rw (← c.self.view_is) (both-move_up low c.move_up.new.self high c.move_up-then-has_block.new.self i c.args.from c.args.to (low_here low high i here) (c.has_block.ensures.here c.if-has_block.true) c.requires.order c.requires.within c.move_up.ensures.moved c.move_up-then-has_block.ensures.moved)

pub returns-then-has_block-clause-same : goal.returns-then-has_block-clause-same
returns-then-has_block-clause-same c n =
    ap (λ ns. times ns n) (returns-then-has_block-clause-moved c)
    ∙ times-moved_up (block_at c.args.self.now c.args.block) c.args.from c.args.to c.requires.order (within_block c.args.self.now c.args.block c.args.to c.requires.block c.requires.within) n

pub returns-then-has_block-clause-others : goal.returns-then-has_block-clause-others
returns-then-has_block-clause-others c j ne =
    rw (← c.self.view_is) (block-same c.self.inside.low c.move_up.new.self c.self.inside.high c.move_up-then-has_block.new.self j (c.move_up.ensures.others j ne) (c.move_up-then-has_block.ensures.others j ne))

pub returns-then-has_block-clause-len : goal.returns-then-has_block-clause-len
returns-then-has_block-clause-len c =
    rw (← c.self.view_is) (same-length c.self.inside.low c.move_up.new.self c.self.inside.high c.move_up-then-has_block.new.self c.move_up.ensures.len)

pub returns-else-has_block-clause-moved : goal.returns-else-has_block-clause-moved
returns-else-has_block-clause-moved c =
    let low = c.self.inside.low in
    let high = c.self.inside.high in
    let i = c.args.block in
    rw (← c.self.view_is) (low-moves_up low c.move_up.new.self high i c.args.from c.args.to (c.has_block.ensures.past c.if-has_block.false) c.move_up.ensures.moved)

pub returns-else-has_block-clause-same : goal.returns-else-has_block-clause-same
returns-else-has_block-clause-same c n =
    ap (λ ns. times ns n) (returns-else-has_block-clause-moved c)
    ∙ times-moved_up (block_at c.args.self.now c.args.block) c.args.from c.args.to c.requires.order (within_block c.args.self.now c.args.block c.args.to c.requires.block c.requires.within) n

pub returns-else-has_block-clause-others : goal.returns-else-has_block-clause-others
returns-else-has_block-clause-others c j ne =
    rw (← c.self.view_is) (block-same c.self.inside.low c.move_up.new.self c.self.inside.high c.self.inside.high j (c.move_up.ensures.others j ne) refl)

pub returns-else-has_block-clause-len : goal.returns-else-has_block-clause-len
returns-else-has_block-clause-len c =
    rw (← c.self.view_is) (same-length c.self.inside.low c.move_up.new.self c.self.inside.high c.self.inside.high c.move_up.ensures.len)
