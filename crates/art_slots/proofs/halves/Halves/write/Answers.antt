use Rattle.art_slots.proofs.Blocks.{block_below, set-index}
use Rattle.art_slots.proofs.halves.Halves.write.Goals as goal

pub get_mut-requires : goal.get_mut-requires
get_mut-requires c = block_below c.self.inside.blocks.items c.self.invariant.0 c.args.i (rw (← c.self.view_is) at c.requires)

pub returns : goal.returns
returns c =
    let l = rw (← c.self.view_is) at c.requires in
    rw (← c.self.view_is) (set-index c.self.inside.blocks.items c.self.invariant.0 c.args.i l c.args.half c.get_mut.result.now c.get_mut.ensures.value)
