-- What the contracts of a set's walk that extracts cite.
use Rattle.std.specs.Prelude.{◌≡◌, ℕ, List, Option, Some, None, Bool, reverse}
use Rattle.std.specs.Borrow.{Bor, MutBor}
use denote.Param.Members.{Mut}
use Rattle.blart_keys.specs.declared.AsBytes.{Ghosts}
use Rattle.blart_keys.specs.Content.{without}
use Rattle.blart_keys.specs.Walks.{ExtractsFirst}
use Rattle.blart_map.specs.Passed.{leaves_left}
use Rattle.blart_set.specs.declared.extracting.ExtractIf.{ExtractIf}
use Rattle.blart_set.specs.Asking.{AsksElement, CallableOnEachElement}
use Rattle.blart_set.specs.Elements.{Numbered, elements}

-- the reference to the set
abbrev pub extract_set : {K F : Type 0} {p : ℕ} {k : Ghosts K} → ExtractIf K F p k → MutBor (List (Numbered K (Unit {0})))
extract_set s = s.set

-- the closure, as the calls so far have left it
abbrev pub extract_pred : {K F : Type 0} {p : ℕ} {k : Ghosts K} → ExtractIf K F p k → F
extract_pred s = s.pred

-- the elements on which the closure may still be called
abbrev pub extract_left : {K F : Type 0} {p : ℕ} {k : Ghosts K} → ExtractIf K F p k → List K
extract_left s = elements (leaves_left s.cursor s.set.now)

-- the extracted element is removed, and no other
abbrev pub IsLess : {K : Type 0} → (K → List ℕ) → List K → Option K → List K → Type 0
IsLess kb S None T = T ≡ S
IsLess kb S (Some x) T = T ≡ without kb S (kb x)

module _ {F K : Type 0} (g : Mut F (Bor K × Unit {0}) Bool) where
  -- the closure is called on these in order, up to the first for which it returns true: the result
  abbrev pub AsksUpTo : List K → F → Option K → List K → F → Type 0
  AsksUpTo coming f result rest f' = (passed : List K) × ExtractsFirst (AsksElement g) coming f result passed rest f'

  module _ {p : ℕ} {k : Ghosts K} where
    -- the closure may be called on each element that is left, from the first on
    abbrev pub CanExtract : ExtractIf K F p k → Type 0
    CanExtract s = CallableOnEachElement g s.pred (extract_left s)

    -- and from the last on
    abbrev pub CanExtractBack : ExtractIf K F p k → Type 0
    CanExtractBack s = CallableOnEachElement g s.pred (reverse (extract_left s))

    -- one `next`
    pub record ExtractsNext (s : ExtractIf K F p k) (result : Option K) (t : ExtractIf K F p k) : Type 0 where
      pub same_set : t.set.ghost_name ≡ s.set.ghost_name
      pub asks : AsksUpTo (extract_left s) s.pred result (extract_left t) t.pred
      pub less : IsLess k.bytes (elements s.set.now) result (elements t.set.now)

    -- one `next_back`, which calls the closure from the last element on
    pub record ExtractsNextBack (s : ExtractIf K F p k) (result : Option K) (t : ExtractIf K F p k) : Type 0 where
      pub same_set : t.set.ghost_name ≡ s.set.ghost_name
      pub asks : AsksUpTo (reverse (extract_left s)) s.pred result (reverse (extract_left t)) t.pred
      pub less : IsLess k.bytes (elements s.set.now) result (elements t.set.now)
