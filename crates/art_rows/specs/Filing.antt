-- How leaf records are filed in rows.
use Rattle.std.specs.Prelude.{◌≡◌, ℕ, ◌*◌, ◌≤◌, List, [], ◌∷◌, map, length, Option, option_map, Some, None}
use Rattle.art_slots.specs.Store.{Store, slot_at as at, used_count}
use Rattle.art_rows.specs.Numbers.{Numbered, Numbers, leaf_in, AreDistinct}
use Rattle.art_rows.specs.Rows.{numbers, AreFilled}
use Rattle.art_rows.specs.declared.row.TheConstants.{ROW}
use Rattle.art_rows.specs.Leaves.{Leaves}
use Rattle.art_rows.specs.declared.leaves.Leaf.{Leaf}

module _ {K V : Type 0} where
  -- the pairs, after the pair of a record if there is one
  abbrev pub put : ℕ → Option (Leaf K V) → List (Numbered (K × V)) → List (Numbered (K × V))
  put n None ps = ps
  put n (Some x) ps = (n, (x.key, x.value)) ∷ ps

  -- the pairs of the records under these numbers
  abbrev pub gather : (ℕ → Option (Leaf K V)) → List ℕ → List (Numbered (K × V))
  gather leaves [] = []
  gather leaves (n ∷ ns) = put n (leaves n) (gather leaves ns)

  -- the record of the pair under a number
  abbrev pub filed : List (Numbered (K × V)) → ℕ → Option (Leaf K V)
  filed ps i = option_map (λ (x : K × V). record { key = x.0; value = x.1 }) (leaf_in ps i)

  -- the records are those of the pairs, and the rows have the pairs' numbers
  pub record Files (leaves : ℕ → Option (Leaf K V)) (rows : List (Numbered (List ℕ))) (count : ℕ) (pairs : List (Numbered (K × V))) : Type 0 where
    pub distinct : AreDistinct pairs
    pub each : (i : ℕ) → leaves i ≡ filed pairs i
    pub joined : map (λ p. p.0) pairs ≡ numbers rows
    pub filled : AreFilled rows
    pub apart : AreDistinct rows
    pub counted : count ≡ length pairs

  -- the pairs of a store of leaves, in the order of the rows
  abbrev pub pairs_in : Store (Leaf K V) → List (Numbered (List ℕ)) → List (Numbered (K × V))
  pairs_in leaves rows = gather (at leaves) (numbers rows)

  -- the records are filed in the rows, and there are no others
  abbrev pub AllFiled : Store (Leaf K V) → List (Numbered (List ℕ)) → Type 0
  AllFiled leaves rows = Files (at leaves) rows (used_count leaves) (pairs_in leaves rows)

  -- what a contract sees of leaves in rows
  abbrev pub content : Store (Leaf K V) → Numbers (List ℕ) → Leaves K V
  content leaves rows = record { pairs = pairs_in leaves rows.pairs; rows = rows.pairs; spare_rows = rows.spare }

  -- the records are filed, and the table has each cell of the rows
  abbrev pub AllPlaced : Store (Leaf K V) → Numbers (List ℕ) → Type 0
  AllPlaced leaves rows = AllFiled leaves rows.pairs × (ROW * rows.top ≤ length leaves.slots)
