-- Pairs that ascend by their bytes: what is found in them, and how many there are.
use Rattle.std.proofs.Common.{◌≡◌, ◌≢◌, ℕ, ◌+◌, ◌<◌, ◌≤◌, inl, inr, Bool, true, false, not, List, [], ◌∷◌, length, refl, sym, ap, ◌∙◌, arith, Option, Some, None, is_some, bytes_eq, if◌then◌else◌}
use Rattle.std.proofs.lemmas.Bool.{false≢true, cases_Bool, not-true, not_from_false, false_from_ne_true}
use Rattle.std.specs.Cmp.Lexicographic.{bytes_decides}
use Rattle.blart_keys.specs.Bytes.{begins, less}
use Rattle.blart_keys.specs.Content.{Ascends, without}
use Rattle.blart_keys.specs.KeyLaws.{begins_length, begins_same_length}
use Rattle.blart_keys.specs.Stored.{bytes, pair_at, has, Updates}
use Rattle.blart_keys.proofs.ByteLemmas.{fronts_related}
use Rattle.blart_keys.proofs.ContentLemmas.{at_Some, at_absent}
use Rattle.blart_keys.proofs.PartLemmas.{less-irrefl, less-trans, less-same}
use Rattle.blart_keys.proofs.RankLemmas.{Member, Ranked, Ranked-from_AllPairs, AllPairs-from_Ranked, Ranked-cases, Ranked-filter, same_list, each_member, filter_member, member_filter, filter_all, find_only}
use Rattle.std.proofs.lemmas.Bool.{and_parts, or_cases}
use Rattle.std.proofs.Common.{eqb, eqb-true}

-- ---- prefixes of one list

-- two of the same length are equal
pub same_length_fronts : (a b q : List ℕ) → begins a q ≡ true → begins b q ≡ true → length a ≡ length b → a ≡ b
same_length_fronts a b q h k e = elim (or_cases (begins a b) (begins b a) (fronts_related a b q h k)) [
  | inl l ↦ begins_same_length a b e l
  | inr r ↦ sym (begins_same_length b a (sym e) r)
]

-- a proper prefix is less
front_less : (a b : List ℕ) → begins a b ≡ true → length a < length b → less a b ≡ true
front_less [] [] h l = absurd (omega arith)
front_less [] (y ∷ b) h l = refl
front_less (x ∷ a) [] h l = absurd (false≢true h)
front_less (x ∷ a) (y ∷ b) h l =
    let p = and_parts (eqb x y) (begins a b) h in
    less-same x y a b (eqb-true x y p.0) ∙ front_less a b p.1 (omega arith)

-- the shorter one is less
pub shorter_front_less : (a b q : List ℕ) → begins a q ≡ true → begins b q ≡ true → length a < length b → less a b ≡ true
shorter_front_less a b q h k l = elim (or_cases (begins a b) (begins b a) (fronts_related a b q h k)) [
  | inl m ↦ front_less a b m l
  | inr m ↦ (let n : length b ≤ length a = begins_length b a m in absurd (omega arith))
]

module _ {K V : Type 0} (kb : K → List ℕ) where
  -- x has less bytes than y
  abbrev pub Less : K × V → K × V → Type 0
  Less x y = less (kb x.0) (kb y.0) ≡ true

  pub one_way : (x y : K × V) → Less x y → Less y x → ⊥
  one_way x y h k = false≢true (sym (less-irrefl (kb x.0)) ∙ less-trans (kb x.0) (kb y.0) (kb x.0) h k)

  not_same : (x y : K × V) → kb x.0 ≡ kb y.0 → Less x y → ⊥
  not_same x y e h = false≢true (sym (less-irrefl (kb y.0)) ∙ ap (λ b. less b (kb y.0)) (sym e) ∙ h)

  pub ascends_from : (S : List (K × V)) → Ranked Less S → Ascends (bytes kb) S
  ascends_from S r = AllPairs-from_Ranked Less S r

  pub ranked_from : (S : List (K × V)) → Ascends (bytes kb) S → Ranked Less S
  ranked_from S a = Ranked-from_AllPairs Less S a

  -- ---- what is found

  -- two pairs with the same bytes are the same
  pub same_pair : (S : List (K × V)) → Ranked Less S → (x y : K × V) → Member x S → Member y S → kb x.0 ≡ kb y.0 → x ≡ y
  same_pair S r x y m n e = elim (Ranked-cases Less S x y r m n) [
    | inl s ↦ s
    | inr (inl l) ↦ absurd (not_same x y e l)
    | inr (inr l) ↦ absurd (not_same y x (sym e) l)
  ]

  -- a pair is found at its bytes
  pub found_member : (S : List (K × V)) → Ranked Less S → (q : List ℕ) (x : K × V) → Member x S → kb x.0 ≡ q → pair_at kb S q ≡ Some x
  unfolding pair_at
  found_member S r q x m e =
      find_only (λ (p : K × V). bytes_eq (kb p.0) q) S x m ((bytes_decides (kb x.0) q).1 e)
      (λ y n t. same_pair S r y x n m ((bytes_decides (kb y.0) q).0 t ∙ sym e))

  -- what is found is a pair with the bytes
  pub member_found : (S : List (K × V)) (q : List ℕ) (x : K × V) → pair_at kb S q ≡ Some x → Member x S × (kb x.0 ≡ q)
  unfolding pair_at
  member_found S q x e = at_Some (bytes kb) S q x e

  pub absent_found : (S : List (K × V)) (q : List ℕ) → ((x : K × V) → Member x S → kb x.0 ≢ q) → pair_at kb S q ≡ None
  unfolding pair_at
  absent_found S q h = at_absent (bytes kb) S q h

  -- ---- how many there are

  -- the pairs with other bytes than q
  others : List (K × V) → List ℕ → List (K × V)
  others S q = without (bytes kb) S q

  -- they are the pairs of S' too, if S' has the same at all other bytes
  same_others : (S S' : List (K × V)) → Ranked Less S → Ranked Less S' → (q : List ℕ) → ((r : List ℕ) → r ≢ q → pair_at kb S' r ≡ pair_at kb S r) → others S q ≡ others S' q
  unfolding others
  same_others S S' r s q same = same_list Less one_way (others S q) (others S' q) (Ranked-filter Less _ S r) (Ranked-filter Less _ S' s) (λ x m. half S S' r (λ t off. same t off) x m) (λ x m. half S' S s (λ t off. sym (same t off)) x m)
    where
      half : (A B : List (K × V)) → Ranked Less A → ((r : List ℕ) → r ≢ q → pair_at kb B r ≡ pair_at kb A r) → (x : K × V) → Member x (others A q) → Member x (others B q)
      half A B a e x m =
          let f = filter_member (λ (p : K × V). not (bytes_eq (kb p.0) q)) A x m in
          let off : kb x.0 ≢ q = (λ s. false≢true (sym (not-true _ f.1) ∙ (bytes_decides (kb x.0) q).1 s)) in
          member_filter (λ (p : K × V). not (bytes_eq (kb p.0) q)) B x (member_found B (kb x.0) x (e (kb x.0) off ∙ found_member A a (kb x.0) x f.0 refl)).0 f.1

  -- S has one pair more than these, if it has the bytes q
  count_others : (S : List (K × V)) → Ranked Less S → (q : List ℕ) → length (others S q) + (if has kb S q then 1 else 0) ≡ length S
  unfolding others pair_at
  count_others [] r q = refl
  count_others (x ∷ S) r q = elim (cases_Bool (bytes_eq (kb x.0) q)) [
    | inl t ↦ rw t (omega (arith, ap (λ (T : List (K × V)). length T) (all_others t)))
    | inr f ↦ rw f (omega (arith, count_others S r.1 q))
  ]
    where
      all_others : bytes_eq (kb x.0) q ≡ true → others S q ≡ S
      all_others t = filter_all (λ (p : K × V). not (bytes_eq (kb p.0) q)) S (λ y m. not_from_false _ (false_from_ne_true _ (λ u. not_same x y ((bytes_decides (kb x.0) q).0 t ∙ sym ((bytes_decides (kb y.0) q).0 u)) (each_member (Less x) S y r.0 m))))

  -- after a change at the bytes q, the numbers of pairs differ by what was and is there
  pub count_updates : (S S' : List (K × V)) → Ranked Less S → Ranked Less S' → (q : List ℕ) (w : Option (K × V)) → Updates kb S S' q w → length S' + (if has kb S q then 1 else 0) ≡ length S + (if is_some w then 1 else 0)
  count_updates S S' r s q w u =
      let one = count_others S r q in
      let other = count_others S' s q in
      let same = ap (λ (T : List (K × V)). length T) (same_others S S' r s q u.1) in
      let now : has kb S' q ≡ is_some w = ap is_some u.0 in
      sums (has kb S q) (has kb S' q) (is_some w) _ _ _ _ now one other same
    where
      sums : (b c d : Bool) (k l m n : ℕ) → c ≡ d → k + (if b then 1 else 0) ≡ m → l + (if c then 1 else 0) ≡ n → k ≡ l → n + (if b then 1 else 0) ≡ m + (if d then 1 else 0)
      sums b true true k l m n e f g h = omega arith
      sums b false false k l m n e f g h = omega arith
      sums b true false k l m n e f g h = absurd (false≢true (sym e))
      sums b false true k l m n e f g h = absurd (false≢true e)
