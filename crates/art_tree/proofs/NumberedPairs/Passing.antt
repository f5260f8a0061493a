-- The least and the greatest key below a child.
use Rattle.std.proofs.Common.{◌≡◌, ℕ, ◌<◌, Bool, true, false, List, [], ◌∷◌, ◌++◌, filter, refl, ap, sym, Option, Some, ◌∙◌, ◌⊎◌, inl, inr}
use Rattle.std.proofs.lemmas.Bool.{cases_Bool, cond-true, cond-false, false≢true, false_from_ne_true}
use Rattle.blart_keys.specs.Bytes.{less}
use Rattle.blart_keys.proofs.PartLemmas.{less-from_PartsBelow, less-trans, less-irrefl, parts_at_branch}
use Rattle.blart_keys.proofs.RankLemmas.{Member, Ranked, each_member, filter_none}
use Rattle.blart_keys.proofs.ContentLemmas.{Before}
use Rattle.art_tree.specs.Begins.{Bytes, Begins}
use Rattle.art_tree.specs.Leaves.{Numbered, bytes, first_number, last_number}
use Rattle.art_kinds.specs.Nodes.{Node}
use Rattle.art_tree.specs.Invariant.Shape.{Shape}
use Rattle.art_kinds.specs.declared.records.ids.Child.{Child}
use Rattle.art_kinds.specs.declared.records.ids.Edge.{Edge}
use Rattle.art_tree.proofs.BeginsLemmas.{begins-from_Begins}

-- of two keys that part at f, the key with the lesser byte is less
pub parted_less : (f l k : Bytes) (a b : ℕ) → Begins (f ++ a ∷ []) l → Begins (f ++ b ∷ []) k → a < b → less l k ≡ true
parted_less f l k a b fl fk lt =
    less-from_PartsBelow l k (parts_at_branch f l k (record { low = a; high = b; below = lt; first = begins-from_Begins (f ++ a ∷ []) l fl; second = begins-from_Begins (f ++ b ∷ []) k fk }))

module _ (keys : ℕ → Option Bytes) (nodes : ℕ → Option Node) (top : Bytes) where
  module _ {P : ℕ} (root : Option Child) (s : Shape P keys nodes root) where
    module _ (n : ℕ) (x : Node) (is : nodes n ≡ Some x) (e : Edge) where
      abbrev f : Bytes
      f = s.front_of n

-- ---- the first and the last pair that pass a test

module _ {K V : Type 0} (key_bytes : K → Bytes) (p : Numbered K V → Bool) where
  not_both : (x y : Numbered K V) → Before (bytes key_bytes) x y → less (bytes key_bytes y) (bytes key_bytes x) ≡ true → ⊥
  not_both x y b l = false≢true (sym (less-irrefl (bytes key_bytes x)) ∙ less-trans (bytes key_bytes x) (bytes key_bytes y) (bytes key_bytes x) (less-from_PartsBelow _ _ b) l)

  -- a pair that passes and is less than all others that pass is the first
  pub first_passing : (ps : List (Numbered K V)) (x : Numbered K V) → Ranked (Before (bytes key_bytes)) ps → Member x ps → p x ≡ true
      → ((y : Numbered K V) → Member y ps → p y ≡ true → (y ≡ x) ⊎ (less (bytes key_bytes x) (bytes key_bytes y) ≡ true)) → first_number (filter p ps) ≡ Some x.0
  first_passing [] x r m t least = absurd m
  first_passing (z ∷ ps) x r m t least =
      elim (cases_Bool (p z)) [
        | inl u ↦ ap first_number (cond-true (p z) (z ∷ filter p ps) (filter p ps) u) ∙ ap (λ (z : Numbered K V). Some z.0) (here m (least z (inl refl) u))
        | inr u ↦ ap first_number (cond-false (p z) (z ∷ filter p ps) (filter p ps) u) ∙ there (λ k. first_passing ps x r.1 k t (λ y n. least y (inr n))) m u
      ]
    where
      here : Member x (z ∷ ps) → (z ≡ x) ⊎ (less (bytes key_bytes x) (bytes key_bytes z) ≡ true) → z ≡ x
      here (inl e) h = e
      here (inr k) (inl e) = e
      here (inr k) (inr l) = absurd (not_both z x (each_member (Before (bytes key_bytes) z) ps x r.0 k) l)

      there : (Member x ps → first_number (filter p ps) ≡ Some x.0) → Member x (z ∷ ps) → p z ≡ false → first_number (filter p ps) ≡ Some x.0
      there later (inl e) u = absurd (false≢true (sym u ∙ ap p e ∙ t))
      there later (inr k) u = later k

  -- a pair that passes and is greater than all others that pass is the last
  pub last_passing : (ps : List (Numbered K V)) (x : Numbered K V) → Ranked (Before (bytes key_bytes)) ps → Member x ps → p x ≡ true
      → ((y : Numbered K V) → Member y ps → p y ≡ true → (y ≡ x) ⊎ (less (bytes key_bytes y) (bytes key_bytes x) ≡ true)) → last_number (filter p ps) ≡ Some x.0
  last_passing [] x r m t greatest = absurd m
  last_passing (z ∷ ps) x r (inl e) t greatest =
      ap last_number (cond-true (p z) (z ∷ filter p ps) (filter p ps) (ap p e ∙ t))
      ∙ ap (λ (l : List (Numbered K V)). last_number (z ∷ l)) (filter_none p ps (λ y n. false_from_ne_true (p y) (λ u. elim (greatest y (inr n) u) [
        | inl s ↦ not_both z y (each_member (Before (bytes key_bytes) z) ps y r.0 n) (ap (λ (w : Numbered K V). less (bytes key_bytes w) (bytes key_bytes z)) (s ∙ sym e) ∙ itself y n s)
        | inr l ↦ not_both z y (each_member (Before (bytes key_bytes) z) ps y r.0 n) (ap (λ (w : Numbered K V). less (bytes key_bytes y) (bytes key_bytes w)) e ∙ l)
      ])))
      ∙ ap (λ (z : Numbered K V). Some z.0) e
    where
      itself : (y : Numbered K V) → Member y ps → y ≡ x → less (bytes key_bytes z) (bytes key_bytes z) ≡ true
      itself y n s = ap (λ (w : Numbered K V). less (bytes key_bytes z) (bytes key_bytes w)) (e ∙ sym s) ∙ less-from_PartsBelow _ _ (each_member (Before (bytes key_bytes) z) ps y r.0 n)
  last_passing (z ∷ ps) x r (inr k) t greatest =
      let rest : last_number (filter p ps) ≡ Some x.0 = last_passing ps x r.1 k t (λ y n. greatest y (inr n)) in
      elim (cases_Bool (p z)) [
        | inl u ↦ ap last_number (cond-true (p z) (z ∷ filter p ps) (filter p ps) u) ∙ more (filter p ps) rest
        | inr u ↦ ap last_number (cond-false (p z) (z ∷ filter p ps) (filter p ps) u) ∙ rest
      ]
    where
      more : (l : List (Numbered K V)) → last_number l ≡ Some x.0 → last_number (z ∷ l) ≡ Some x.0
      more [] e = absurd cc
      more (y ∷ l) e = e
