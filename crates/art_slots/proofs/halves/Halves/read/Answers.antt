use Rattle.art_slots.proofs.Blocks.{block_below, at-index}
use Rattle.art_slots.proofs.halves.Halves.read.Goals as goal

pub read-requires : goal.read-requires
read-requires c = block_below c.self.inside.blocks.items c.self.invariant.0 c.args.i (rw (← c.self.view_is) at c.requires)

pub returns : goal.returns
returns c =
    let l = rw (← c.self.view_is) at c.requires in
    rw (← c.self.view_is) (at-index c.self.inside.blocks.items c.self.invariant.0 c.args.i l c.read.result.now c.read.ensures)
