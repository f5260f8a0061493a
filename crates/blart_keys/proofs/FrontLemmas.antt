-- The elements of `fronts` are the prefixes after which two items of a content differ.
use Rattle.std.proofs.Common.{◌≡◌, ℕ, ◌<◌, true, inl, inr, List, [], ◌∷◌, ◌++◌, refl, sym, ap, ◌∙◌, subst, eq-or-lt_of_le}
use Rattle.std.specs.Ordering.{eq_by_cmp, is_eq}
use Rattle.std.specs.Cmp.{Equal-is, tied_itself}
use Rattle.std.specs.Cmp.Lexicographic.{nat_list_cmp_total}
use Rattle.std.proofs.lemmas.Map.Lookups.{exact_bytes}
use Rattle.std.specs.FinSet as set
use Rattle.blart_keys.specs.Bytes.{begins, bytes_cmp}
use Rattle.blart_keys.specs.Content.{IsContent}
use Rattle.blart_keys.specs.Fronts.{commons, fronts}
use Rattle.blart_keys.proofs.PartLemmas.{PartsBelow, PartsBelow-irrefl, less-from_PartsBelow, Branch, branch_at_common, common_at_branch, parts_at_branch, goes_on_between}
use Rattle.blart_keys.proofs.RankLemmas.{Member, each_member, any_found, any_member, Ranked}
use Rattle.blart_keys.proofs.ContentLemmas.{Before, one_way, Ranked-from_content}

module _ {X : Type 0} (bytes : X → List ℕ) where
  -- two items begin with f and differ at the next byte
  pub record Branches (S : List X) (f : List ℕ) : Type 0 where
    pub x : X
    pub y : X
    pub x_there : Member x S
    pub y_there : Member y S
    pub branch : Branch f (bytes x) (bytes y)

  wider : (z : X) (S : List X) (f : List ℕ) → Branches S f → Branches (z ∷ S) f
  wider z S f b = record { x = b.x; y = b.y; x_there = inr b.x_there; y_there = inr b.y_there; branch = b.branch }

  branches_from_commons : (S : List X) (f : List ℕ) → Ranked (Before bytes) S → Member f (commons bytes S) → Branches S f
  branches_from_commons [] f r m = absurd m
  branches_from_commons (x ∷ []) f r m = absurd m
  branches_from_commons (x ∷ y ∷ S) f r (inl e) = record { x = x; y = y; x_there = inl refl; y_there = inr (inl refl); branch = subst (λ g. Branch g (bytes x) (bytes y)) e (branch_at_common (bytes x) (bytes y) r.0.0) }
  branches_from_commons (x ∷ y ∷ S) f r (inr m) = wider x (y ∷ S) f (branches_from_commons (y ∷ S) f r.1 m)

  -- if z's bytes begin with f and `low`, and a later item's with f and `high`, f is in `commons`
  from_head : (f : List ℕ) (low high : ℕ) (y : X) → low < high → begins (f ++ high ∷ []) (bytes y) ≡ true → (z : X) (S : List X) → Ranked (Before bytes) (z ∷ S) → begins (f ++ low ∷ []) (bytes z) ≡ true → Member y S → Member f (commons bytes (z ∷ S))
  from_head f low high y l v z [] r u m = absurd m
  from_head f low high y l v z (w ∷ S) r u (inl e) =
      inl (common_at_branch f (bytes z) (bytes w) (record { low = low; high = high; below = l; first = u; second = subst (λ a. begins (f ++ high ∷ []) (bytes a) ≡ true) (sym e) v }))
  from_head f low high y l v z (w ∷ S) r u (inr m) =
      let g = goes_on_between f (bytes z) (bytes w) (bytes y) low high r.0.0 (less-from_PartsBelow _ _ (each_member (Before bytes w) S y r.1.0 m)) u v in
      elim (eq-or-lt_of_le g.least) [
        | inl e ↦ inr (from_head f low high y l v w S r.1 (subst (λ n. begins (f ++ n ∷ []) (bytes w) ≡ true) (sym e) g.goes) m)
        | inr k ↦ inl (common_at_branch f (bytes z) (bytes w) (record { low = low; high = g.next; below = k; first = u; second = g.goes }))
      ]

  skip : (z : X) (S : List X) (f : List ℕ) → Member f (commons bytes S) → Member f (commons bytes (z ∷ S))
  skip z [] f m = absurd m
  skip z (y ∷ S) f m = inr m

  commons_from_branches : (S : List X) (f : List ℕ) (x y : X) → Ranked (Before bytes) S → Member x S → Member y S → Branch f (bytes x) (bytes y) → Member f (commons bytes S)
  commons_from_branches [] f x y r m n b = absurd m
  commons_from_branches (z ∷ S) f x y r (inl e) (inl g) b = absurd (PartsBelow-irrefl (bytes x) (subst (λ w. PartsBelow (bytes x) (bytes w)) (sym g ∙ e) (parts_at_branch f (bytes x) (bytes y) b)))
  commons_from_branches (z ∷ S) f x y r (inl e) (inr n) b = from_head f b.low b.high y b.below b.second z S r (subst (λ w. begins (f ++ b.low ∷ []) (bytes w) ≡ true) (sym e) b.first) n
  commons_from_branches (z ∷ S) f x y r (inr m) (inl g) b = absurd (one_way bytes x y (parts_at_branch f (bytes x) (bytes y) b) (subst (λ w. PartsBelow (bytes w) (bytes x)) g (each_member (Before bytes z) S x r.0 m)))
  commons_from_branches (z ∷ S) f x y r (inr m) (inr n) b = skip z S f (commons_from_branches S f x y r.1 m n b)

  -- ---- as a set

  same_bytes : (f g : List ℕ) → eq_by_cmp bytes_cmp f g ≡ true → g ≡ f
  same_bytes f g h = sym (exact_bytes f g ((Equal-is (bytes_cmp f g)).0 h))

  pub branches_at_front : (S : List X) (f : List ℕ) → IsContent bytes S → set.contains (fronts bytes S) f ≡ true → Branches S f
  branches_at_front S f c h =
      let r = any_found (eq_by_cmp bytes_cmp f) (commons bytes S) (sym (set.contains-from_list nat_list_cmp_total (commons bytes S) f) ∙ h) in
      branches_from_commons S f (Ranked-from_content bytes S c) (subst (λ g. Member g (commons bytes S)) (same_bytes f r.0 r.2) r.1)

  pub front_at_branches : (S : List X) (f : List ℕ) → IsContent bytes S → Branches S f → set.contains (fronts bytes S) f ≡ true
  front_at_branches S f c b =
      set.contains-from_list nat_list_cmp_total (commons bytes S) f
      ∙ any_member (eq_by_cmp bytes_cmp f) (commons bytes S) f (commons_from_branches S f b.x b.y (Ranked-from_content bytes S c) b.x_there b.y_there b.branch) (ap is_eq (tied_itself nat_list_cmp_total f))
