-- A list of pairs into which another list is moved, pair by pair.
use Rattle.std.proofs.Common.{◌≡◌, ◌≢◌, ℕ, true, false, ◌⊎◌, inl, inr, List, [], ◌∷◌, ◌++◌, Option, Some, None, refl, sym, ap, ◌∙◌, subst, subst₂, Contains, bytes_eq}
use Rattle.std.proofs.lemmas.Bool.{cases_Bool, false_from_ne_true}
use Rattle.std.specs.Cmp.Lexicographic.{bytes_decides}
use Rattle.blart_keys.specs.Bulk.{IsAppended}
use Rattle.blart_keys.specs.Content.{IsContent, IsPut, at, stores}
use Rattle.blart_keys.specs.Merges.{IsUnion}
use Rattle.blart_keys.specs.Steps.{bytes as pair_bytes}
use Rattle.blart_keys.specs.Stored.{pair_at}
use Rattle.blart_keys.proofs.MergeLemmas.{union_unique}
use Rattle.blart_keys.proofs.PartLemmas.{PartsBelow, PartsBelow-irrefl}
use Rattle.blart_keys.proofs.RankLemmas.{Member, Contains-from_Member, Member-from_Contains, Member-append_left, Member-append_right, Member-append_cases, Ranked-across, find_only}
use Rattle.blart_keys.proofs.ContentLemmas.{Before, Ranked-from_content, same_item, related-same, at_Some, at_None, at_absent, stores_found, stores_missing}
use Rattle.blart_keys.proofs.PutLemmas.{put_member, member_put}
use Rattle.art_edits.specs.Bulk.{or_else}

module _ {X : Type 0} (bytes : X → List ℕ) where
  -- no item has the bytes of an item after it
  pub fresh_after : (A B : List X) (x : X) → IsContent bytes (A ++ x ∷ B) → stores bytes A (bytes x) ≡ false
  fresh_after A B x c = false_from_ne_true _ (λ t.
      let r = stores_found bytes A (bytes x) t in
      let b : Before bytes r.0 x = Ranked-across (Before bytes) A (x ∷ B) (Ranked-from_content bytes (A ++ x ∷ B) c) r.0 x r.1 (inl refl) in
      PartsBelow-irrefl (bytes x) (subst (λ q. PartsBelow q (bytes x)) r.2 b))

  -- the union of no items and a list is the list
  pub union_start : (S : List X) → IsContent bytes S → IsUnion bytes [] S S
  union_start S c = record {
    ascends = c.ascends;
    elements = λ x. (λ m. inr (m, refl), λ m. elim m [ inl n ↦ absurd (Member-from_Contains x [] n) | inr n ↦ n.0 ]);
  }

  -- the union of a list and no items is the list
  pub union_all : (T : List X) → IsContent bytes T → IsUnion bytes T [] T
  union_all T c = record {
    ascends = c.ascends;
    elements = λ x. (λ m. inl m, λ m. elim m [ inl n ↦ n | inr n ↦ absurd (Member-from_Contains x [] n.0) ]);
  }

  -- one more item is put
  pub union_more : (A S U U' : List X) (x : X) → IsUnion bytes A S U → IsPut bytes U x U' → stores bytes A (bytes x) ≡ false → IsUnion bytes (A ++ x ∷ []) S U'
  union_more A S U U' x u put fresh = record {
    ascends = put.content.ascends;
    elements = λ y. (
      λ m. elim (put_member bytes U U' x y put (Member-from_Contains y U' m)) [
        | inl e ↦ inl (subst (Contains (A ++ x ∷ [])) (sym e) (Contains-from_Member x (A ++ x ∷ []) here))
        | inr n ↦ elim ((u.elements y).0 (Contains-from_Member y U n.0)) [
          | inl a ↦ inl (Contains-from_Member y (A ++ x ∷ []) (Member-append_left y A (x ∷ []) (Member-from_Contains y A a)))
          | inr b ↦ inr (b.0, still y b.1 n.1)
        ]
      ],
      λ m. elim m [
        | inl a ↦ elim (Member-append_cases y A (x ∷ []) (Member-from_Contains y (A ++ x ∷ []) a)) [
          | inl n ↦ grown y ((u.elements y).1 (inl (Contains-from_Member y A n))) (stores_missing bytes A (bytes x) y fresh n)
          | inr (inl e) ↦ subst (Contains U') e put.there
          | inr (inr n) ↦ absurd n
        ]
        | inr b ↦ grown y ((u.elements y).1 (inr (b.0, before y b.1))) (λ e. stores_missing bytes (A ++ x ∷ []) (bytes y) x b.1 here (sym e))
      ],
    );
  }
    where
      here : Member x (A ++ x ∷ [])
      here = Member-append_right x A (x ∷ []) (inl refl)

      grown : (y : X) → Contains U y → bytes y ≢ bytes x → Contains U' y
      grown y m ne = Contains-from_Member y U' (member_put bytes U U' x y put (Member-from_Contains y U m) ne)

      still : (y : X) → stores bytes A (bytes y) ≡ false → bytes y ≢ bytes x → stores bytes (A ++ x ∷ []) (bytes y) ≡ false
      still y f ne = false_from_ne_true _ (λ t.
          let r = stores_found bytes (A ++ x ∷ []) (bytes y) t in
          elim (Member-append_cases r.0 A (x ∷ []) r.1) [
            | inl n ↦ stores_missing bytes A (bytes y) r.0 f n r.2
            | inr (inl e) ↦ ne (sym (ap bytes e ∙ r.2))
            | inr (inr n) ↦ n
          ])

      before : (y : X) → stores bytes (A ++ x ∷ []) (bytes y) ≡ false → stores bytes A (bytes y) ≡ false
      before y f = false_from_ne_true _ (λ t.
          let r = stores_found bytes A (bytes y) t in
          stores_missing bytes (A ++ x ∷ []) (bytes y) r.0 f (Member-append_left r.0 A (x ∷ []) r.1) r.2)

  -- one more item is added if its bytes are new
  pub union_step : (T A U U' : List X) (x : X) → IsUnion bytes T A U → stores bytes A (bytes x) ≡ false → (stores bytes U (bytes x) ≡ false → IsPut bytes U x U') → (stores bytes U (bytes x) ≡ true → U' ≡ U) → IsUnion bytes T (A ++ x ∷ []) U'
  union_step T A U U' x u fresh put same = elim (cases_Bool (stores bytes U (bytes x))) [
    | inl t ↦ subst (IsUnion bytes T (A ++ x ∷ [])) (sym (same t)) (stored t)
    | inr f ↦ added f (put f)
  ]
    where
      last : Member x (A ++ x ∷ [])
      last = Member-append_right x A (x ∷ []) (inl refl)

      more : (y : X) → Contains A y → Contains (A ++ x ∷ []) y
      more y m = Contains-from_Member y (A ++ x ∷ []) (Member-append_left y A (x ∷ []) (Member-from_Contains y A m))

      wider : (y : X) → Contains U y → Contains T y ⊎ (Contains (A ++ x ∷ []) y × (stores bytes T (bytes y) ≡ false))
      wider y m = elim ((u.elements y).0 m) [
        | inl a ↦ inl a
        | inr b ↦ inr (more y b.0, b.1)
      ]

      -- an item of the list is an earlier item, or this item
      earlier : (y : X) → Contains (A ++ x ∷ []) y → Contains A y ⊎ (x ≡ y)
      earlier y m = elim (Member-append_cases y A (x ∷ []) (Member-from_Contains y (A ++ x ∷ []) m)) [
        | inl n ↦ inl (Contains-from_Member y A n)
        | inr (inl e) ↦ inr e
        | inr (inr n) ↦ absurd n
      ]

      unmet : stores bytes U (bytes x) ≡ true → stores bytes T (bytes x) ≡ false → ⊥
      unmet t f =
          let r = stores_found bytes U (bytes x) t in
          elim ((u.elements r.0).0 (Contains-from_Member r.0 U r.1)) [
            | inl a ↦ stores_missing bytes T (bytes x) r.0 f (Member-from_Contains r.0 T a) r.2
            | inr b ↦ stores_missing bytes A (bytes x) r.0 fresh (Member-from_Contains r.0 A b.0) r.2
          ]

      stored : stores bytes U (bytes x) ≡ true → IsUnion bytes T (A ++ x ∷ []) U
      stored t = record {
        ascends = u.ascends;
        elements = λ y. (
          wider y,
          λ m. elim m [
            | inl a ↦ (u.elements y).1 (inl a)
            | inr b ↦ elim (earlier y b.0) [
              | inl n ↦ (u.elements y).1 (inr (n, b.1))
              | inr e ↦ absurd (unmet t (subst (λ z. stores bytes T (bytes z) ≡ false) (sym e) b.1))
            ]
          ],
        );
      }

      lacks : stores bytes U (bytes x) ≡ false → stores bytes T (bytes x) ≡ false
      lacks f = false_from_ne_true _ (λ t.
          let r = stores_found bytes T (bytes x) t in
          stores_missing bytes U (bytes x) r.0 f (Member-from_Contains r.0 U ((u.elements r.0).1 (inl (Contains-from_Member r.0 T r.1)))) r.2)

      added : stores bytes U (bytes x) ≡ false → IsPut bytes U x U' → IsUnion bytes T (A ++ x ∷ []) U'
      added f put = record {
        ascends = put.content.ascends;
        elements = λ y. (
          λ m. elim (put_member bytes U U' x y put (Member-from_Contains y U' m)) [
            | inl e ↦ inr (subst (Contains (A ++ x ∷ [])) (sym e) (Contains-from_Member x (A ++ x ∷ []) last), subst (λ z. stores bytes T (bytes z) ≡ false) (sym e) (lacks f))
            | inr n ↦ wider y (Contains-from_Member y U n.0)
          ],
          λ m. elim m [
            | inl a ↦ grown y ((u.elements y).1 (inl a))
            | inr b ↦ elim (earlier y b.0) [
              | inl n ↦ grown y ((u.elements y).1 (inr (n, b.1)))
              | inr e ↦ subst (Contains U') e put.there
            ]
          ],
        );
      }
        where
          grown : (y : X) → Contains U y → Contains U' y
          grown y m = Contains-from_Member y U' (member_put bytes U U' x y put (Member-from_Contains y U m) (stores_missing bytes U (bytes x) y f (Member-from_Contains y U m)))

  -- the item at some bytes of a union is the item of the first list, or else of the second
  pub union_at : (T S U : List X) → IsContent bytes T → IsContent bytes S → IsUnion bytes T S U → (q : List ℕ) → at bytes U q ≡ or_else (at bytes T q) (at bytes S q)
  union_at T S U t s u q = go (at bytes T q) refl (at bytes S q) refl
    where
      only : (x : X) → Contains U x → bytes x ≡ q → ((y : X) → Member y U → bytes y ≡ q → y ≡ x) → at bytes U q ≡ Some x
      only x m e h = find_only (λ x. bytes_eq (bytes x) q) U x (Member-from_Contains x U m) ((bytes_decides (bytes x) q).1 e) (λ y n b. h y n ((bytes_decides (bytes y) q).0 b))

      lacks : at bytes T q ≡ None → (y : X) → bytes y ≡ q → stores bytes T (bytes y) ≡ false
      lacks e y b = false_from_ne_true _ (λ h. let r = stores_found bytes T (bytes y) h in at_None bytes T q r.0 e r.1 (r.2 ∙ b))

      go : (o : Option X) → at bytes T q ≡ o → (p : Option X) → at bytes S q ≡ p → at bytes U q ≡ or_else o p
      go (Some x) e p f =
          let r = at_Some bytes T q x e in
          only x ((u.elements x).1 (inl (Contains-from_Member x T r.0))) r.1 (λ y n b. elim ((u.elements y).0 (Contains-from_Member y U n)) [
            | inl m ↦ same_item bytes T t y x (Member-from_Contains y T m) r.0 (related-same (bytes y) (bytes x) (b ∙ sym r.1))
            | inr m ↦ absurd (stores_missing bytes T (bytes y) x m.1 r.0 (r.1 ∙ sym b))
          ])
      go None e (Some x) f =
          let r = at_Some bytes S q x f in
          only x ((u.elements x).1 (inr (Contains-from_Member x S r.0, lacks e x r.1))) r.1 (λ y n b. elim ((u.elements y).0 (Contains-from_Member y U n)) [
            | inl m ↦ absurd (at_None bytes T q y e (Member-from_Contains y T m) b)
            | inr m ↦ same_item bytes S s y x (Member-from_Contains y S m.0) r.0 (related-same (bytes y) (bytes x) (b ∙ sym r.1))
          ])
      go None e None f = at_absent bytes U q (λ y n b. elim ((u.elements y).0 (Contains-from_Member y U n)) [
        | inl m ↦ at_None bytes T q y e (Member-from_Contains y T m) b
        | inr m ↦ at_None bytes S q y f (Member-from_Contains y S m.0) b
      ])

  -- if the higher part of a content is appended to the lower part, the result is the content
  pub union_parts : (A B U : List X) → IsContent bytes (A ++ B) → IsUnion bytes B A U → U ≡ A ++ B
  union_parts A B U c u = union_unique bytes B A U (A ++ B) u (record {
    ascends = c.ascends;
    elements = λ x. (
      λ m. elim (Member-append_cases x A B (Member-from_Contains x (A ++ B) m)) [
        | inl a ↦ inr (Contains-from_Member x A a, low x a)
        | inr b ↦ inl (Contains-from_Member x B b)
      ],
      λ m. Contains-from_Member x (A ++ B) (elim m [
        | inl b ↦ Member-append_right x A B (Member-from_Contains x B b)
        | inr a ↦ Member-append_left x A B (Member-from_Contains x A a.0)
      ]),
    );
  })
    where
      low : (x : X) → Member x A → stores bytes B (bytes x) ≡ false
      low x a = false_from_ne_true _ (λ t.
          let r = stores_found bytes B (bytes x) t in
          let b : Before bytes x r.0 = Ranked-across (Before bytes) A B (Ranked-from_content bytes (A ++ B) c) x r.0 a r.1 in
          PartsBelow-irrefl (bytes x) (subst (λ q. PartsBelow (bytes x) q) r.2 b))

-- the same for pairs, if the lists are equal to others
pub appended_at : {K V : Type 0} (kb : K → List ℕ) (S T S' T' U : List (K × V)) → S' ≡ S → T' ≡ T → IsContent (pair_bytes kb) S → IsContent (pair_bytes kb) T → IsUnion (pair_bytes kb) T' S' U → (q : List ℕ) → pair_at kb U q ≡ or_else (pair_at kb T q) (pair_at kb S q)
unfolding pair_at
appended_at kb S T S' T' U e f s t u = union_at (pair_bytes kb) T S U t s (subst₂ (λ A B. IsUnion (pair_bytes kb) A B U) f e u)

-- if the higher part of a map is appended to the lower part, the result is the map
pub joined_parts : {K V : Type 0} (kb : K → List ℕ) (S A B U : List (K × V)) → IsContent (pair_bytes kb) S → S ≡ A ++ B → IsAppended (pair_bytes kb) A B U → U ≡ S
joined_parts kb S A B U c e u = union_parts (pair_bytes kb) A B U (subst (IsContent (pair_bytes kb)) e c) u ∙ sym e

-- the same, if the lists are equal to others
pub joined_at : {K V : Type 0} (kb : K → List ℕ) (A B A' B' U : List (K × V)) → A' ≡ A → B' ≡ B → IsUnion (pair_bytes kb) B' A' U → (S : List (K × V)) → IsContent (pair_bytes kb) S → S ≡ A ++ B → U ≡ S
joined_at kb A B A' B' U e f u S c w = joined_parts kb S A B U c w (subst₂ (λ C D. IsUnion (pair_bytes kb) D C U) e f u)
