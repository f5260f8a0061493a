-- A handle owns what a box of a tree owns.
use mathlib.Core.List.{[]}
use mir.Syntax.{impl, tnil, dnil}
use denote.Signature.{Slot, plain}
use Rattle.std.proofs.BoxSteps.Form.{Bx}
use Rattle.std.specs.contracts.alloc.Global as Heap
use Rattle.std.specs.contracts.impls.GlobalAllocator.TheImpl.{ghosts, dict}
use Rattle.std.proofs.alloc.Global.TheLaws as heap
use Rattle.blart_c.specs.contracts.tree.Tree as Tree
use Rattle.blart_c.proofs.tree.Tree.TheLaws as tree
use Rattle.blart_c.specs.contracts.box_parts.BoxParts as Parts
use Rattle.blart_c.specs.contracts.handle.ArtMap as Handle
use Rattle.blart_c.proofs.handle.ArtMap.TheLaws as handle

abbrev pub E : Bx
E = record { row = Tree.the_row; laws = tree.the_row_laws; al = record { row = Heap.the_row; laws = heap.the_row_laws; g = ghosts; d = dict; drops = impl [] tnil dnil } }

abbrev pub FromParts : Slot 0
FromParts = plain (λ _. Parts.the_row Tree.the_row Heap.the_row ghosts)

abbrev pub FromHandle : Slot 0
FromHandle = plain (λ _. Handle.the_row)

-- a handle in the block that C has
abbrev pub EH : Bx
EH = record { row = Handle.the_row; laws = handle.the_row_laws; al = record { row = Heap.the_row; laws = heap.the_row_laws; g = ghosts; d = dict; drops = impl [] tnil dnil } }
