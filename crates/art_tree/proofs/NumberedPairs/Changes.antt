-- A content that loses a pair, or gets another pair under a number.
use Rattle.std.proofs.Common.{◌≡◌, ◌≢◌, ℕ, ◌<◌, ◌⊎◌, inl, inr, List, [], ◌∷◌, Some, Bool, false, refl, sym, ap, subst, ◌∙◌, filter}
use Rattle.std.proofs.lemmas.Bool.{false≢true}
use Rattle.std.proofs.lemmas.Bool.Decides.{eqb_tells}
use Rattle.blart_keys.specs.Bytes.{related, PartsBelow}
use Rattle.blart_keys.specs.Content.{IsContent}
use Rattle.blart_keys.proofs.RankLemmas.{Member, Ranked, Contains-from_Member, each_member, from_each_member, filter_member}
use Rattle.blart_keys.proofs.ContentLemmas.{Before, Ranked-from_content, content_from_Ranked}
use Rattle.art_tree.specs.Begins.{Bytes, Begins}
use Rattle.art_tree.specs.Leaves.{Numbered, leaf_in, Has, Lacks, AreDistinct, without_number, with_pair, with_value, bytes, keys_in}
use Rattle.art_tree.specs.Takes.{MayTake}
use Rattle.art_tree.proofs.BeginsLemmas.{related_cases, related-from_front, related-from_begun}
use Rattle.art_tree.proofs.NumberedPairs.Numbers.{Member-from_leaf_in, leaf_in-member}
use Rattle.blart_keys.proofs.Options.{is_some, some_of}
use Rattle.art_tree.proofs.NumberedPairs.Keys.{member_of_key}

-- ---- a key that is related to another parts from all other keys as that one does

-- a key that parts below k parts below a related key k', if it does not begin with k'
pub parts_left : (a k k' : Bytes) → PartsBelow a k → Begins k k' ⊎ Begins k' k → (Begins k' a → ⊥) → PartsBelow a k'
parts_left [] k k' p r off = absurd p
parts_left (x ∷ a) [] k' p r off = absurd p
parts_left (x ∷ a) (y ∷ k) [] p r off = absurd (off tt)
parts_left (x ∷ a) (y ∷ k) (z ∷ k') (inl l) (inl r) off = inl (subst (λ n. x < n) r.0 l)
parts_left (x ∷ a) (y ∷ k) (z ∷ k') (inl l) (inr r) off = inl (subst (λ n. x < n) (sym r.0) l)
parts_left (x ∷ a) (y ∷ k) (z ∷ k') (inr p) (inl r) off = inr (p.0 ∙ r.0, parts_left a k k' p.1 (inl r.1) (λ b. off (sym (p.0 ∙ r.0), b)))
parts_left (x ∷ a) (y ∷ k) (z ∷ k') (inr p) (inr r) off = inr (p.0 ∙ sym r.0, parts_left a k k' p.1 (inr r.1) (λ b. off (r.0 ∙ sym p.0, b)))

-- and k' parts below a key that k parts below
pub parts_right : (a k k' : Bytes) → PartsBelow k a → Begins k k' ⊎ Begins k' k → (Begins k' a → ⊥) → PartsBelow k' a
parts_right a [] k' p r off = absurd p
parts_right [] (y ∷ k) k' p r off = absurd p
parts_right (x ∷ a) (y ∷ k) [] p r off = absurd (off tt)
parts_right (x ∷ a) (y ∷ k) (z ∷ k') (inl l) (inl r) off = inl (subst (λ n. n < x) r.0 l)
parts_right (x ∷ a) (y ∷ k) (z ∷ k') (inl l) (inr r) off = inl (subst (λ n. n < x) (sym r.0) l)
parts_right (x ∷ a) (y ∷ k) (z ∷ k') (inr p) (inl r) off = inr (sym r.0 ∙ p.0, parts_right a k k' p.1 (inl r.1) (λ b. off (sym r.0 ∙ p.0, b)))
parts_right (x ∷ a) (y ∷ k) (z ∷ k') (inr p) (inr r) off = inr (r.0 ∙ p.0, parts_right a k k' p.1 (inr r.1) (λ b. off (r.0 ∙ p.0, b)))

module _ {K V : Type 0} where
  -- a pair that is left was there before
  member_without : (ps : List (Numbered K V)) (i : ℕ) (y : Numbered K V) → Member y (without_number ps i) → Member y ps
  member_without [] i y m = m
  member_without (p ∷ ps) i y m = elim (eqb_tells p.0 i) [
    | inl t ↦ inr (rw t.0 at m)
    | inr t ↦
        let n : Member y (p ∷ without_number ps i) = rw t.0 at m in
        elim n [ inl e ↦ inl e | inr o ↦ inr (member_without ps i y o) ]
  ]

  -- a pair of the list has no number that the list lacks
  member_lacks : (ps : List (Numbered K V)) (i : ℕ) (y : Numbered K V) → Lacks ps i → Member y ps → y.0 ≢ i
  member_lacks [] i y l m = absurd m
  member_lacks (p ∷ ps) i y l (inl e) = λ h. l.0 (ap (λ (x : Numbered K V). x.0) e ∙ h)
  member_lacks (p ∷ ps) i y l (inr m) = member_lacks ps i y l.1 m

  module _ (R : Numbered K V → Numbered K V → Type 0) where
    ranked_without : (ps : List (Numbered K V)) (i : ℕ) → Ranked R ps → Ranked R (without_number ps i)
    ranked_without [] i r = tt
    ranked_without (p ∷ ps) i r = elim (eqb_tells p.0 i) [
      | inl t ↦ rw t.0 r.1
      | inr t ↦ rw t.0 (from_each_member (R p) (without_number ps i) (λ y m. each_member (R p) ps y r.0 (member_without ps i y m)), ranked_without ps i r.1)
    ]

    -- another pair under a number, related to all others as the first was
    module _ (i : ℕ) (y : K × V) (all : Numbered K V → Type 0)
        (left : (z x : Numbered K V) → all z → all x → z.0 ≢ i → x.0 ≡ i → R z x → R z (x.0, y)) (right : (z x : Numbered K V) → all z → all x → z.0 ≢ i → x.0 ≡ i → R x z → R (x.0, y) z) where
      each_with : (p : Numbered K V) (ps : List (Numbered K V)) → all p → p.0 ≢ i → ((z : Numbered K V) → Member z ps → all z) → ((z : Numbered K V) → Member z ps → R p z) → (z : Numbered K V) → Member z (with_pair ps i y) → R p z
      each_with p [] a off b h z m = absurd m
      each_with p (x ∷ ps) a off b h z m = elim (eqb_tells x.0 i) [
        | inl t ↦
            let n : Member z ((x.0, y) ∷ ps) = rw t.0 at m in
            elim n [ inl e ↦ subst (R p) e (left p x a (b x (inl refl)) off t.1 (h x (inl refl))) | inr o ↦ h z (inr o) ]
        | inr t ↦
            let n : Member z (x ∷ with_pair ps i y) = rw t.0 at m in
            elim n [ inl e ↦ h z (inl e) | inr o ↦ each_with p ps a off (λ w k. b w (inr k)) (λ w k. h w (inr k)) z o ]
      ]

      ranked_with : (ps : List (Numbered K V)) → AreDistinct ps → ((z : Numbered K V) → Member z ps → all z) → Ranked R ps → Ranked R (with_pair ps i y)
      ranked_with [] d a r = tt
      ranked_with (p ∷ ps) d a r = elim (eqb_tells p.0 i) [
        | inl t ↦ rw t.0 (from_each_member (R (p.0, y)) ps (λ z m. right z p (a z (inr m)) (a p (inl refl)) (λ e. member_lacks ps p.0 z d.0 m (e ∙ sym t.1)) t.1 (each_member (R p) ps z r.0 m)), r.1)
        | inr t ↦ rw t.0 (
          from_each_member (R p) (with_pair ps i y) (each_with p ps (a p (inl refl)) t.1 (λ z m. a z (inr m)) (λ z m. each_member (R p) ps z r.0 m)),
          ranked_with ps d.1 (λ z m. a z (inr m)) r.1,
        )
      ]

  -- a number that has a pair that passes a test is a number of the list
  pub passing_has : (ps : List (Numbered K V)) (test : Numbered K V → Bool) (i : ℕ) → AreDistinct ps → Has (filter test ps) i → Has ps i
  passing_has ps test i d h =
      let has = some_of (leaf_in (filter test ps) i) h in
      let m = filter_member test ps (i, has.0) (Member-from_leaf_in (filter test ps) i has.0 has.1) in
      is_some (leaf_in ps i) has.0 (leaf_in-member ps i has.0 d m.0)

module _ {K V : Type 0} (key_bytes : K → Bytes) where
  -- the pairs without one are a content
  pub content_without : (ps : List (Numbered K V)) (i : ℕ) → IsContent (bytes key_bytes) ps → IsContent (bytes key_bytes) (without_number ps i)
  content_without ps i c = content_from_Ranked (bytes key_bytes) (without_number ps i) (ranked_without (Before (bytes key_bytes)) ps i (Ranked-from_content (bytes key_bytes) ps c))

  module _ (ps : List (Numbered K V)) (i : ℕ) (y : K × V) (distinct : AreDistinct ps) (may : MayTake key_bytes ps i (key_bytes y.0)) where
    -- no other key is a prefix of the new one, and the new one is a prefix of no other
    pub apart_new : (z : Numbered K V) → Member z ps → z.0 ≢ i → (Begins (key_bytes y.0) (bytes key_bytes z) → ⊥) × (Begins (bytes key_bytes z) (key_bytes y.0) → ⊥)
    apart_new z m off =
        let f : related (bytes key_bytes z) (key_bytes y.0) ≡ false = may.others z (Contains-from_Member z ps m) off in (
          λ b. false≢true (sym f ∙ related-from_begun (bytes key_bytes z) (key_bytes y.0) b),
          λ b. false≢true (sym f ∙ related-from_front (bytes key_bytes z) (key_bytes y.0) b),
        )

    -- the old key is a prefix of the new one, or the new one of the old
    pub near_new : (x : K × V) → leaf_in ps i ≡ Some x → Begins (key_bytes x.0) (key_bytes y.0) ⊎ Begins (key_bytes y.0) (key_bytes x.0)
    near_new x e = related_cases (key_bytes x.0) (key_bytes y.0) (may.own x e)

    near_member : (x : Numbered K V) → Member x ps → x.0 ≡ i → Begins (bytes key_bytes x) (key_bytes y.0) ⊎ Begins (key_bytes y.0) (bytes key_bytes x)
    near_member x m e = near_new x.1 (ap (leaf_in ps) (sym e) ∙ leaf_in-member ps x.0 x.1 distinct m)

    -- the same for a key under another number
    pub apart_key : (j : ℕ) (l : Bytes) → keys_in key_bytes ps j ≡ Some l → j ≢ i → (Begins (key_bytes y.0) l → ⊥) × (Begins l (key_bytes y.0) → ⊥)
    apart_key j l e off =
        let x = member_of_key key_bytes ps j l e in
        let r = apart_new x.0 x.1 (λ h. off (sym x.2 ∙ h)) in
        (λ b. r.0 (subst (λ (z : Bytes). Begins (key_bytes y.0) z) (sym x.3) b), λ b. r.1 (subst (λ (z : Bytes). Begins z (key_bytes y.0)) (sym x.3) b))

    -- the pairs with the new one are a content
    pub content_with : IsContent (bytes key_bytes) ps → IsContent (bytes key_bytes) (with_pair ps i y)
    content_with c =
        content_from_Ranked (bytes key_bytes) (with_pair ps i y)
        (ranked_with (Before (bytes key_bytes)) i y (λ z. Member z ps)
        (λ z x mz mx off e p. parts_left (bytes key_bytes z) (bytes key_bytes x) (key_bytes y.0) p (near_member x mx e) (apart_new z mz off).0)
        (λ z x mz mx off e p. parts_right (bytes key_bytes z) (bytes key_bytes x) (key_bytes y.0) p (near_member x mx e) (apart_new z mz off).0)
        ps distinct (λ z m. m) (Ranked-from_content (bytes key_bytes) ps c))

  -- with another value, the pairs part in the same way
  each_value : (k : Bytes) (ps : List (Numbered K V)) (i : ℕ) (v : V) → ((z : Numbered K V) → Member z ps → PartsBelow k (bytes key_bytes z)) → (z : Numbered K V) → Member z (with_value ps i v) → PartsBelow k (bytes key_bytes z)
  each_value k [] i v h z m = absurd m
  each_value k (x ∷ ps) i v h z m = elim (eqb_tells x.0 i) [
    | inl t ↦
        let n : Member z ((x.0, (x.1.0, v)) ∷ ps) = rw t.0 at m in
        elim n [ inl e ↦ subst (λ w. PartsBelow k (bytes key_bytes w)) e (h x (inl refl)) | inr o ↦ h z (inr o) ]
    | inr t ↦
        let n : Member z (x ∷ with_value ps i v) = rw t.0 at m in
        elim n [ inl e ↦ h z (inl e) | inr o ↦ each_value k ps i v (λ w l. h w (inr l)) z o ]
  ]

  ranked_value : (ps : List (Numbered K V)) (i : ℕ) (v : V) → Ranked (Before (bytes key_bytes)) ps → Ranked (Before (bytes key_bytes)) (with_value ps i v)
  ranked_value [] i v r = tt
  ranked_value (p ∷ ps) i v r = elim (eqb_tells p.0 i) [
    | inl t ↦ rw t.0 (r.0, r.1)
    | inr t ↦ rw t.0 (from_each_member (Before (bytes key_bytes) p) (with_value ps i v) (each_value (bytes key_bytes p) ps i v (λ z m. each_member (Before (bytes key_bytes) p) ps z r.0 m)), ranked_value ps i v r.1)
  ]

  -- the pairs with another value are a content
  pub content_with_value : (ps : List (Numbered K V)) (i : ℕ) (v : V) → IsContent (bytes key_bytes) ps → IsContent (bytes key_bytes) (with_value ps i v)
  content_with_value ps i v c = content_from_Ranked (bytes key_bytes) (with_value ps i v) (ranked_value ps i v (Ranked-from_content (bytes key_bytes) ps c))
