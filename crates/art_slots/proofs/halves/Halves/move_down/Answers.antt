use Rattle.std.proofs.Common.{◌≡◌, ◌+◌, ◌-◌, ◌*◌, ◌≤◌, length, sym, ap, ◌∙◌, arith}
use Rattle.std.proofs.lemmas.List.Sorted.{IsPermutation-put_mid, length_permutation}
use borrow.Rule.Slice.PartMut.{put_mid}
use Rattle.art_slots.specs.declared.halves.Block.{Block}
use Rattle.art_slots.specs.Words.{moved_down}
use Rattle.art_slots.specs.Halves.{joined, IsWhole}
use Rattle.art_slots.proofs.Blocks.{block_within, block-at, size-at, block-put-same, block-put-other, length-put}
use Rattle.art_slots.proofs.Moves.{rotates_down}
use Rattle.art_slots.proofs.halves.Halves.move_down.Goals as goal

pub get_mut-requires : goal.get_mut-requires
get_mut-requires c = block_within c.self.inside.blocks.items c.self.invariant.0 c.args.block (rw (← c.self.view_is) at c.requires.block)

-- the block is within the list
here : (c : goal.After-self-1) → 64 * c.args.block + 64 ≤ length (joined c.self.inside.blocks.items)
here c = rw (← c.self.view_is) at c.requires.block

-- the block after the move
abbrev after : goal.After-self-1 → Block
after c = record { halves = put_mid c.args.to (c.args.from + 1 - c.args.to) c.get_mut.result.now.halves c.rotate_right.new.self }

-- the block has 64 numbers before and after
size : (c : goal.After-self-1) → IsWhole c.get_mut.result.now
size c = size-at c.self.inside.blocks.items c.self.invariant.0 c.args.block (here c) c.get_mut.result.now c.get_mut.ensures.value

whole : (c : goal.After-self-1) → IsWhole (after c)
whole c =
    let b = c.get_mut.result.now.halves in
    length_permutation b (after c).halves (IsPermutation-put_mid c.args.to (c.args.from + 1 - c.args.to) b c.rotate_right.new.self c.rotate_right.ensures.permutation)
    ∙ size c

pub returns-clause-moved : goal.returns-clause-moved
returns-clause-moved c =
    let b = c.get_mut.result.now in
    let s : length b.halves ≡ 64 = size c in
    let w = c.requires.within in
    let m =
    rotates_down b.halves c.args.from c.args.to c.requires.order (omega arith) c.rotate_right.new.self c.rotate_right.ensures.after in
    rw (← c.self.view_is) (
    block-put-same c.self.inside.blocks.items c.self.invariant.0 c.args.block (here c) (after c) (whole c) ∙ m
    ∙ ap (λ ns. moved_down ns c.args.from c.args.to) (sym (block-at c.self.inside.blocks.items c.self.invariant.0 c.args.block (here c) b c.get_mut.ensures.value))
    )

pub returns-clause-others : goal.returns-clause-others
returns-clause-others c j ne = rw (← c.self.view_is) (block-put-other c.self.inside.blocks.items c.self.invariant.0 c.args.block (here c) (after c) (whole c) j ne)

pub returns-clause-len : goal.returns-clause-len
returns-clause-len c = rw (← c.self.view_is) (length-put c.self.inside.blocks.items c.self.invariant.0 c.args.block (here c) (after c) (whole c))
