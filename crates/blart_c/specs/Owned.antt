-- What a handle owns: the tree behind its pointer, and the right to free the tree's block.
use base.Fml.{Fml}
use base.Stored.{Coded}
use denote.RawPtr.{Ptr}
use Rattle.std.specs.Global.{Global}
use Rattle.std.specs.Box.Ownership.{box_owns}
use Rattle.std.specs.contracts.impls.GlobalAllocator.TheImpl.{ghosts}
use Rattle.blart_c.specs.contracts.tree.Tree.{the_row}

-- the tree at the pointer, with its block
abbrev pub tree_owns : Global → Ptr → the_row.Denot → Fml
tree_owns alloc = box_owns (ghosts.dealloc_token alloc) the_row

-- how the logic stores a tree
abbrev pub tree_coded : Coded the_row.Denot
tree_coded = the_row.coded
