-- What passes between C and a handle: the tree that a call lends, and a map that is made.
use base.Fml.{Fml, ftrue, fsep, fex}
use denote.RawPtr.{Ptr}
use denote.Ref.{MutBor}
use denote.Follow.{follows}
use Rattle.std.specs.Prelude.{ℕ, zero, suc, [], ◌≡◌}
use Rattle.std.specs.Global.{Global}
use Rattle.std.specs.Box.Ownership.{box_owns}
use Rattle.std.specs.contracts.impls.GlobalAllocator.TheImpl.{ghosts}
use Rattle.blart_map.specs.Content.{pairs}
use Rattle.blart_c.specs.declared.codes.TheConstants.{NO_MEMORY}
use Rattle.blart_c.specs.declared.tree.Tree.{Tree}
use Rattle.blart_c.specs.declared.handle.ArtMap.{ArtMap}
use Rattle.blart_c.specs.contracts.tree.Tree.{the_row as tree_row}
use Rattle.blart_c.specs.contracts.handle.ArtMap.{the_row as map_row}

-- the handle m with the tree t
abbrev pub with_tree : ArtMap → Tree → ArtMap
with_tree m t = record { at = m.at; alloc = m.alloc; tree = t }

-- once the borrow of the tree ends, the handle has the tree that was left
abbrev pub LendsTree : MutBor ArtMap → MutBor Tree → Fml
LendsTree m t = follows map_row tree_row m.ghost_name t.ghost_name (with_tree m.now)

-- the handle at a pointer that `art_new` wrote, and the right to free it
abbrev pub owns_map : Global → Ptr → ArtMap → Fml
owns_map alloc = box_owns (ghosts.dealloc_token alloc) map_row

-- a map with no pairs
abbrev pub IsEmpty : ArtMap → Type 0
IsEmpty m = pairs m.tree.map ≡ []

-- what `art_new` returns with the code r, if the pointer was p and is q: an empty map at q, or it
-- runs out of memory and the pointer is unchanged
abbrev pub Made : Global → ℕ → Ptr → Ptr → Fml
Made alloc zero p q = fex ArtMap (λ m. fsep (fex (IsEmpty m) (λ _. ftrue)) (owns_map alloc q m))
Made alloc (suc r) p q = fex ((suc r ≡ NO_MEMORY) × (q ≡ p)) (λ _. ftrue)
