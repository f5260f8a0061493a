use Rattle.std.proofs.Common.{sym}
use Rattle.art_slots.proofs.Blocks.{block_within, block-at}
use Rattle.art_slots.proofs.halves.Halves.block.Goals as goal

pub read-requires : goal.read-requires
read-requires c = block_within c.self.inside.blocks.items c.self.invariant.0 c.args.block (rw (← c.self.view_is) at c.requires)

pub returns : goal.returns
returns c =
    let l = rw (← c.self.view_is) at c.requires in
    let b = c.read.result.now in
    rw (← c.self.view_is) (sym (block-at c.self.inside.blocks.items c.self.invariant.0 c.args.block l b c.read.ensures))
