-- Stores with equal clones of nodes, and stores with no nodes.
use Rattle.std.proofs.Common.{◌≡◌, ◌≤◌, ◌/◌, ◌%◌, ℕ, zero, suc, List, [], slice_index_or, count_by, is_some, Option, Some, None, ap, ◌∙◌, sym, arith}
use Rattle.art_kinds.specs.Nodes.{Node, Nodes, store_of, at, live, room}
use Rattle.art_kinds.specs.OneKinds.{IsOneKind}
use Rattle.art_slots.specs.Store.{Store, slot_at, IsSlotClone, AreClones, SameRecords, used_count}

same_slot : (a b : Option Node) → IsSlotClone (λ (x y : Node). y ≡ x) a b → b ≡ a
same_slot None b h = h
same_slot (Some x) (Some y) h = ap Some h
same_slot (Some x) None h = absurd h

-- the copy has the same records
pub same_copy : (s copy : Store Node) → AreClones (λ (x y : Node). y ≡ x) s copy → SameRecords s copy
same_copy s copy h j = same_slot _ _ (h j)

-- the copy is of one kind if the store is
pub copy_kind : {P : ℕ} {places : Option ℕ} (s copy : Store Node) → IsOneKind P places s → AreClones (λ (x y : Node). y ≡ x) s copy
    → used_count copy ≡ used_count s → copy.spare ≤ s.spare → IsOneKind P places copy
copy_kind s copy k h used spare = record { all = λ i x e. k.all i x (sym (same_slot _ _ (h i)) ∙ e); small = λ some. k.small (omega arith) }

-- if no kind has a slot, there is no node
pub no_node : (s : Nodes) → s.fours.slots ≡ [] → s.sixteens.slots ≡ [] → s.forty_eights.slots ≡ [] → s.fulls.slots ≡ [] → (j : ℕ) → at s j ≡ None
no_node s e0 e1 e2 e3 j = of_kind (j % 4)
  where
    of_kind : (k : ℕ) → slot_at (store_of s k) (j / 4) ≡ None
    of_kind zero = ap (λ (xs : List (Option Node)). slice_index_or xs (j / 4) None) e0
    of_kind (suc zero) = ap (λ (xs : List (Option Node)). slice_index_or xs (j / 4) None) e1
    of_kind (suc (suc zero)) = ap (λ (xs : List (Option Node)). slice_index_or xs (j / 4) None) e2
    of_kind (suc (suc (suc k))) = ap (λ (xs : List (Option Node)). slice_index_or xs (j / 4) None) e3

-- if no kind has a slot, the number of nodes is 0
pub no_live : (s : Nodes) → s.fours.slots ≡ [] → s.sixteens.slots ≡ [] → s.forty_eights.slots ≡ [] → s.fulls.slots ≡ [] → live s ≡ 0
no_live s e0 e1 e2 e3 = omega (arith, unused s.fours e0, unused s.sixteens e1, unused s.forty_eights e2, unused s.fulls e3)
  where
    unused : (a : Store Node) → a.slots ≡ [] → used_count a ≡ 0
    unused a e = ap (λ (xs : List (Option Node)). count_by is_some xs) e

-- if the first kind has no spare record, there is no room
pub no_room : (s : Nodes) → s.fours.spare ≡ 0 → room s ≡ 0
no_room s e = omega (arith, e)
