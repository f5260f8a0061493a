-- Merges of ascending lists: each merge is unique, and what its elements are.
use Rattle.std.proofs.Common.{◌≡◌, ℕ, Bool, true, false, not, ◌⊎◌, ◌↔◌, inl, inr, List, sym, ◌∙◌, filter, Contains}
use Rattle.std.proofs.lemmas.Bool.{false≢true, cases_Bool, not-true, not_from_false}
use Rattle.blart_keys.specs.Bytes.{less}
use Rattle.blart_keys.specs.Content.{Ascends, stores}
use Rattle.blart_keys.specs.Merges.{IsUnion, intersection, difference, IsSymmetricDifference}
use Rattle.blart_keys.proofs.PartLemmas.{less-irrefl, less-trans}
use Rattle.blart_keys.proofs.RankLemmas.{Contains-from_Member, Member-from_Contains, filter_member, member_filter, Ranked-from_AllPairs, AllPairs-from_Ranked, Ranked-filter, same_list}

module _ {X : Type 0} (bytes : X → List ℕ) where
  abbrev pub Lower : X → X → Type 0
  Lower x y = less (bytes x) (bytes y) ≡ true

  pub lower_one_way : (x y : X) → Lower x y → Lower y x → ⊥
  lower_one_way x y h k = false≢true (sym (less-irrefl (bytes x)) ∙ less-trans (bytes x) (bytes y) (bytes x) h k)

  -- two ascending lists with the same elements are equal
  pub same_ascending : (S T : List X) → Ascends bytes S → Ascends bytes T → ((x : X) → Contains S x ↔ Contains T x) → S ≡ T
  same_ascending S T s t h =
      same_list Lower lower_one_way S T (Ranked-from_AllPairs Lower S s) (Ranked-from_AllPairs Lower T t)
      (λ x m. Member-from_Contains x T ((h x).0 (Contains-from_Member x S m)))
      (λ x m. Member-from_Contains x S ((h x).1 (Contains-from_Member x T m)))

  pub union_unique : (A B U V : List X) → IsUnion bytes A B U → IsUnion bytes A B V → U ≡ V
  union_unique A B U V u v = same_ascending U V u.ascends v.ascends (λ x. (λ c. (v.elements x).1 ((u.elements x).0 c), λ c. (u.elements x).1 ((v.elements x).0 c)))

  pub symmetric_unique : (A B U V : List X) → IsSymmetricDifference bytes A B U → IsSymmetricDifference bytes A B V → U ≡ V
  symmetric_unique A B U V u v = same_ascending U V u.ascends v.ascends (λ x. (λ c. (v.elements x).1 ((u.elements x).0 c), λ c. (u.elements x).1 ((v.elements x).0 c)))

  pub filter_ascends : (p : X → Bool) (S : List X) → Ascends bytes S → Ascends bytes (filter p S)
  filter_ascends p S s = AllPairs-from_Ranked Lower (filter p S) (Ranked-filter Lower p S (Ranked-from_AllPairs Lower S s))

  pub intersection_elements : (A B : List X) (x : X) → Contains (intersection bytes A B) x ↔ (Contains A x × (stores bytes B (bytes x) ≡ true))
  intersection_elements A B x = (
    λ c. let r = filter_member (λ x. stores bytes B (bytes x)) A x (Member-from_Contains x (intersection bytes A B) c) in (Contains-from_Member x A r.0, r.1),
    λ c. Contains-from_Member x (intersection bytes A B) (member_filter (λ x. stores bytes B (bytes x)) A x (Member-from_Contains x A c.0) c.1),
  )

  pub difference_elements : (A B : List X) (x : X) → Contains (difference bytes A B) x ↔ (Contains A x × (stores bytes B (bytes x) ≡ false))
  difference_elements A B x = (
    λ c. let r = filter_member (λ x. not (stores bytes B (bytes x))) A x (Member-from_Contains x (difference bytes A B) c) in (Contains-from_Member x A r.0, not-true _ r.1),
    λ c. Contains-from_Member x (difference bytes A B) (member_filter (λ x. not (stores bytes B (bytes x))) A x (Member-from_Contains x A c.0) (not_from_false _ c.1)),
  )

  -- an element of the union is an element of the intersection or of one of the two differences
  pub union_parts : (A B U : List X) → IsUnion bytes A B U → (x : X) → Contains U x ↔ ((Contains (difference bytes A B) x ⊎ Contains (intersection bytes A B) x) ⊎ Contains (difference bytes B A) x)
  union_parts A B U u x = (
    λ c. elim ((u.elements x).0 c) [
      | inl a ↦ elim (cases_Bool (stores bytes B (bytes x))) [ inl t ↦ inl (inr ((intersection_elements A B x).1 (a, t))) | inr f ↦ inl (inl ((difference_elements A B x).1 (a, f))) ]
      | inr b ↦ inr ((difference_elements B A x).1 b)
    ],
    λ c. (u.elements x).1 (elim c [
      | inl (inl d) ↦ inl ((difference_elements A B x).0 d).0
      | inl (inr i) ↦ inl ((intersection_elements A B x).0 i).0
      | inr d ↦ inr ((difference_elements B A x).0 d)
    ]),
  )
