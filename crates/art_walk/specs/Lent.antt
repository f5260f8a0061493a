-- What is true once a returned `&mut` to a value ends: that value is written, nothing else changes.
use Rattle.std.specs.Prelude.{◌≡◌, ℕ, List, [], ◌∷◌, ◌++◌, Option, Some, None, Bool, true, false, if◌then◌else◌, is_some, map, eqb, length}
use Rattle.std.specs.Option.{is_none}
use Rattle.std.proofs.Common.{ap, refl, ◌∙◌}
use Rattle.art_tree.proofs.CallerLemmas.{numbers-with_value}
use Rattle.art_tree.specs.Leaves.{Numbered, leaf_in, Lacks, with_value}
use Rattle.art_walk.specs.declared.cursor.Cursor.{Cursor}
use Rattle.art_walk.specs.Cursor.{from_number, leaves_left}

module _ {K V : Type 0} where
  -- the numbers of a list of pairs
  abbrev pub numbers : List (Numbered K V) → List ℕ
  numbers ps = map (λ p. p.0) ps

-- these numbers, each with an empty pair
abbrev pub bare : List ℕ → List (Numbered (Unit {0}) (Unit {0}))
bare ns = map (λ n. (n, (tt, tt))) ns

-- whether the ends, if there are any, are among these numbers, the first not after the last
abbrev pub ends_fit : Option (ℕ × ℕ) → List ℕ → Bool
ends_fit None ns = true
ends_fit (Some e) ns = is_some (leaf_in (from_number (bare ns) e.0) e.1)

-- whether the number returned last, if there is one, is among these, and not among those left
abbrev pub lent_fits : Option ℕ → List (Numbered (Unit {0}) (Unit {0})) → List (Numbered (Unit {0}) (Unit {0})) → Bool
lent_fits None ps left = true
lent_fits (Some i) ps left = if is_some (leaf_in ps i) then is_none (leaf_in left i) else false

-- whether a walk fits these numbers: its ends do, and the number that it returned last does
abbrev pub walk_fits : Cursor → Option ℕ → List ℕ → Bool
walk_fits c lent ns = if ends_fit c.ends ns then lent_fits lent (bare ns) (leaves_left c (bare ns)) else false

-- whether a walk fits these numbers, and the count of those that are left is right
abbrev pub count_fits : Cursor → Option ℕ → ℕ → List ℕ → Bool
count_fits c lent left ns = if walk_fits c lent ns then eqb left (length (leaves_left c (bare ns))) else false

module _ {K V : Type 0} where
  -- the list, with the value of f for each of the pairs that are left
  abbrev pub written_all : (K × V → V) → List (Numbered K V) → List (Numbered K V) → List (Numbered K V)
  written_all f [] ps = ps
  written_all f (p ∷ left) ps = written_all f left (with_value ps p.0 (f p.1))

  -- a pair that was left was returned, with the value v, which is now w, and the others are left
  pub record IsLent (old new : List (Numbered K V)) (left after : List (Numbered K V)) (number : ℕ) (key : K) (v w : V) : Type 0 where
    pub named : leaf_in old number ≡ Some (key, v)
    pub written : new ≡ with_value old number w
    pub passed : Lacks after number
    pub all_written : (f : K × V → V) → f (key, v) ≡ w → written_all f after new ≡ written_all f left old

  -- the returned pair was the first, and it is now the pair returned last
  pub record LentFirst (old new : List (Numbered K V)) (left after : List (Numbered K V)) (last : Option ℕ) (v w : V) : Type 0 where
    pub number : ℕ
    pub key : K
    pub splits : left ≡ (number, (key, v)) ∷ after
    pub lent : IsLent old new left after number key v w
    pub is_last : last ≡ Some number

  -- the returned pair was the last, and it is now the pair returned last
  pub record LentLast (old new : List (Numbered K V)) (left after : List (Numbered K V)) (last : Option ℕ) (v w : V) : Type 0 where
    pub number : ℕ
    pub key : K
    pub splits : left ≡ after ++ (number, (key, v)) ∷ []
    pub lent : IsLent old new left after number key v w
    pub is_last : last ≡ Some number

  -- no pair was left, and nothing changed
  pub record NoneLent (old new : List (Numbered K V)) (left after : List (Numbered K V)) (was last : Option ℕ) : Type 0 where
    pub unchanged : new ≡ old
    pub none : left ≡ []
    pub still : after ≡ []
    pub same : last ≡ was

  -- the list, with this value for the pair returned last
  abbrev pub written_last : Option ℕ → List (Numbered K V) → V → List (Numbered K V)
  written_last None ps w = ps
  written_last (Some i) ps w = with_value ps i w

  -- a written value changes no number
  pub numbers_written : (lent : Option ℕ) (ps : List (Numbered K V)) (w : V) → numbers (written_last lent ps w) ≡ numbers ps
  numbers_written None ps w = refl
  numbers_written (Some i) ps w = numbers-with_value ps i w

  -- so the walk still fits
  pub fits_written : (c : Cursor) (lent : Option ℕ) (ps : List (Numbered K V)) (w : V) → walk_fits c lent (numbers ps) ≡ true → walk_fits c lent (numbers (written_last lent ps w)) ≡ true
  fits_written c lent ps w h = ap (walk_fits c lent) (numbers_written lent ps w) ∙ h

  -- and its count still fits
  pub count_written : (c : Cursor) (lent : Option ℕ) (left : ℕ) (ps : List (Numbered K V)) (w : V) → count_fits c lent left (numbers ps) ≡ true → count_fits c lent left (numbers (written_last lent ps w)) ≡ true
  count_written c lent left ps w h = ap (count_fits c lent left) (numbers_written lent ps w) ∙ h
