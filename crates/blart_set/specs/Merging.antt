-- What the contracts of merges cite.
use denote.Ref.{Bor}
use Rattle.std.specs.Prelude.{◌≡◌, ℕ, ◌+◌, ◌<◌, ◌≤◌, ⊤, true, false, List, [], ◌∷◌, length, Option, Some, None, OnSome, IfSome, IfNone}
use Rattle.std.specs.Iterator.{IsFinite, size, item_count}
use Rattle.std.specs.List.{AllByRecursion}
use Rattle.std.specs.Set.{sorted_merge}
use Rattle.blart_keys.specs.Bytes.{bytes_cmp, less}
use Rattle.blart_keys.specs.Merges as merges
use Rattle.blart_set.specs.declared.merges.sides.Side.{Side}
use Rattle.blart_set.specs.declared.merges.sides.Side.TheVariants.{Left, Right, Both}
pub use Rattle.blart_set.specs.Merge.{Merge}

-- a merge of A and B that has made no comparison
pub record IsBeginning {K : Type 0} (A B : List K) (m : Merge K) : Type 0 where
  pub left : m.left ≡ A
  pub right : m.right ≡ B
  pub compares : m.compares ≡ 0

-- at most as many comparisons were made as elements were consumed, and none was forgotten
abbrev pub Counts : {K : Type 0} → Merge K → Merge K → Type 0
Counts old new = (old.compares ≤ new.compares) × (new.compares + (length new.left + length new.right) ≤ old.compares + (length old.left + length old.right))

-- if both sides had something left, something was compared
abbrev pub HasCompared : {K : Type 0} → Merge K → Merge K → Type 0
HasCompared old new = 0 < length old.left → 0 < length old.right → old.compares < new.compares

-- One `next` of a merge with `rest` left. The first three are those of `MakesProgress`, as loops
-- cite them
pub record MergeProgresses {K A : Type 0} (rest : Merge K → List K) (s : Merge K) (r : Option A) (t : Merge K) : Type 0 where
  pub on : IsFinite (item_count rest s) → OnSome r (⊤ × IsFinite (item_count rest t) × (size (item_count rest t) < size (item_count rest s)))
  pub keeps : IfSome r (λ _. ⊤)
  pub rests : IsFinite (item_count rest s) → IfNone r (IsFinite (item_count rest t))
  pub counted : Counts s t
  pub compared : HasCompared s t

module _ {K : Type 0} (kb : K → List ℕ) where
  -- what a union has still to return: what both sides have left, each bytes once
  abbrev pub union_rest : Merge K → List K
  union_rest m = sorted_merge (λ x y. bytes_cmp (kb x) (kb y)) true m.left m.right

  -- what a symmetric difference has still to return: what only one side has left
  abbrev pub symmetric_difference_rest : Merge K → List K
  symmetric_difference_rest m = sorted_merge (λ x y. bytes_cmp (kb x) (kb y)) false m.left m.right

  -- what an intersection has still to return
  abbrev pub intersection_rest : Merge K → List K
  intersection_rest m = merges.intersection kb m.left m.right

  -- what a difference has still to return
  abbrev pub difference_rest : Merge K → List K
  difference_rest m = merges.difference kb m.left m.right

  -- the bytes of x are less than those of each element of S
  abbrev pub Precedes : K → List K → Type 0
  Precedes x S = AllByRecursion (λ y. less (kb x) (kb y) ≡ true) S

  -- the least of what both sides have left was passed
  abbrev pub Steps : Merge K → Option (Side K) → Merge K → Type 0
  Steps m None n = (m.left ≡ []) × (m.right ≡ []) × (n.left ≡ []) × (n.right ≡ [])
  Steps m (Some (Left x)) n = (m.left ≡ x.now ∷ n.left) × (n.right ≡ m.right) × Precedes x.now n.left × Precedes x.now n.right
  Steps m (Some (Right y)) n = (m.right ≡ y.now ∷ n.right) × (n.left ≡ m.left) × Precedes y.now n.left × Precedes y.now n.right
  Steps m (Some (Both x)) n = (m.left ≡ x.now ∷ n.left) × ((y : K) × (m.right ≡ y ∷ n.right) × (kb y ≡ kb x.now)) × Precedes x.now n.left × Precedes x.now n.right

-- the element that a step returns
abbrev pub side_element : {K : Type 0} → Side K → Bor K
side_element (Left x) = x
side_element (Right y) = y
side_element (Both x) = x

-- the same if just one side has the bytes; if both have them; and if just the left one has them
abbrev pub one_element : {K : Type 0} → Side K → Option (Bor K)
one_element (Left x) = Some x
one_element (Right y) = Some y
one_element (Both x) = None

abbrev pub both_element : {K : Type 0} → Side K → Option (Bor K)
both_element (Left x) = None
both_element (Right y) = None
both_element (Both x) = Some x

abbrev pub left_element : {K : Type 0} → Side K → Option (Bor K)
left_element (Left x) = Some x
left_element (Right y) = None
left_element (Both x) = None
