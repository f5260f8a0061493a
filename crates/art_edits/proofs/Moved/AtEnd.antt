-- Pairs put at the end of others, in the order of their bytes.
use Rattle.std.proofs.Common.{◌≡◌, ℕ, ◌-◌, arith, false, inl, inr, List, [], ◌∷◌, ◌++◌, length, slice_get, refl, sym, ap, ◌∙◌, subst, subst₂, Option, Some, None, append-nil, append_assoc}
use Rattle.std.proofs.lemmas.Bool.{false≢true}
use Rattle.std.specs.Prelude.{IfSome}
use Rattle.std.specs.Cmp.Lexicographic.{nat_list_cmp_total}
use Rattle.std.specs.List.Sorted.{IsSortedByKey}
use Rattle.std.proofs.lemmas.List.MinMax.{ranks_by}
use Rattle.std.proofs.lemmas.List.Sorted.{sorted_far}
use Rattle.blart_keys.specs.Bytes.{bytes_cmp, related, less}
use Rattle.blart_keys.specs.Content.{IsContent, IsPut, at}
use Rattle.blart_keys.specs.Steps.{bytes as pair_bytes}
use Rattle.blart_keys.specs.Stored.{kept_pair}
use Rattle.blart_keys.proofs.PartLemmas.{PartsBelow, PartsBelow-trans, parts_cases, less-from_PartsBelow, related-from_PartsBelow}
use Rattle.blart_keys.proofs.RankLemmas.{Member, Contains-from_Member, Member-from_Contains, Member-append_cases, Member-append_right, Ranked, Ranked-from_AllPairs, Ranked-across, each_member}
use Rattle.blart_keys.proofs.ContentLemmas.{Before, Ranked-from_content, put_between, at_member, at_Some}
use Rattle.blart_keys.proofs.PutLemmas.{put_at, put_member}
use Rattle.art_tree.specs.PairList.{IsLastKey, ReplacesLast}
use Rattle.art_edits.specs.Bulk.{NoneGreater}
use Rattle.art_edits.proofs.Numbers.{slice_get-last}
use Rattle.art_edits.proofs.Placed.Inserting.{alone_none}

-- ---- the pair that is put

-- equal lists have the same last item
same_end : {X : Type 0} (A B : List X) (x y : X) → A ++ x ∷ [] ≡ B ++ y ∷ [] → x ≡ y
same_end A B x y e =
    let s : Some x ≡ Some y = sym (slice_get-last A x) ∙ ap (λ l. slice_get l (length l - 1)) e ∙ slice_get-last B y in
    cc

module _ {K V : Type 0} (kb : K → List ℕ) (S : List (K × V)) (content : IsContent (pair_bytes kb) S) (key : K) (v : V) where
  abbrev q : List ℕ
  q = kb key

  -- what `put_last` ensures of the pairs
  abbrev pub Puts : List (K × V) → Type 0
  Puts S' = IsPut (pair_bytes kb) S (kept_pair (at (pair_bytes kb) S q) (key, v)) S'

  puts : (S' : List (K × V)) (o : Option (K × V)) → at (pair_bytes kb) S q ≡ o → IsPut (pair_bytes kb) S (kept_pair o (key, v)) S' → Puts S'
  puts S' o e put = subst (λ w. IsPut (pair_bytes kb) S (kept_pair w (key, v)) S') (sym e) put

  -- the last pair has the bytes: its value is replaced
  pub value_put : (old : V) (S' : List (K × V)) → ReplacesLast S old v S' → (k : K) × IsLastKey S (Some k) × (kb k ≡ q) → Puts S'
  value_put old S' r same =
      let x : K × V = (r.1, old) in
      let last : (same.0, same.1.1) ≡ x = same_end same.1.0 r.0 (same.0, same.1.1) x (sym same.1.2 ∙ r.2) in
      let own : kb r.1 ≡ q = ap (λ (y : K × V). kb y.0) (sym last) ∙ same.2 in
      let there : Member x S = subst (Member x) (sym r.2) (Member-append_right x r.0 (x ∷ []) (inl refl)) in
      let put = put_at (pair_bytes kb) r.0 [] x (r.1, v) (subst (IsContent (pair_bytes kb)) r.2 content) refl in
      puts S' (Some x) (at_member (pair_bytes kb) S content q x there own) (subst₂ (λ T U. IsPut (pair_bytes kb) T (r.1, v) U) (sym r.2) (sym r.3) put)

  -- the last key is not related, and no pair is greater: the new pair comes last
  module _ (order : NoneGreater (pair_bytes kb) S q) where
    last_below : (x : K × V) → Member x S → related (kb x.0) q ≡ false → PartsBelow (kb x.0) q
    last_below x m apart = elim (parts_cases (kb x.0) q apart) [
      | inl b ↦ b
      | inr b ↦ absurd (false≢true (sym (order x (Contains-from_Member x S m)) ∙ less-from_PartsBelow q (kb x.0) b))
    ]

    below_end : (front : List (K × V)) (x : K × V) → S ≡ front ++ x ∷ [] → PartsBelow (kb x.0) q → (y : K × V) → Member y S → PartsBelow (kb y.0) q
    below_end front x is below y m = elim (Member-append_cases y front (x ∷ []) (subst (Member y) is m)) [
      | inl n ↦ PartsBelow-trans (kb y.0) (kb x.0) q (Ranked-across (Before (pair_bytes kb)) front (x ∷ []) (Ranked-from_content (pair_bytes kb) (front ++ x ∷ []) (subst (IsContent (pair_bytes kb)) is content)) y x n (inl refl)) below
      | inr (inl e) ↦ subst (λ (z : K × V). PartsBelow (kb z.0) q) e below
      | inr (inr n) ↦ absurd n
    ]

    all_below : (last : Option K) → IsLastKey S last → IfSome last (λ k. related (kb k) q ≡ false) → (y : K × V) → Member y S → PartsBelow (kb y.0) q
    all_below None none apart y m = absurd (subst (Member y) none m)
    all_below (Some k) cut apart y m =
        let x : K × V = (k, cut.1) in
        let there : Member x S = subst (Member x) (sym cut.2) (Member-append_right x cut.0 (x ∷ []) (inl refl)) in
        below_end cut.0 x cut.2 (last_below x there apart) y m

    pub new_put : (last : Option K) × IsLastKey S last × IfSome last (λ k. related (kb k) q ≡ false) → (S' : List (K × V)) → S' ≡ S ++ (key, v) ∷ [] → Puts S'
    new_put last S' e =
        let x : K × V = (key, v) in
        let below = all_below last.0 last.1 last.2 in
        let put = put_between (pair_bytes kb) S [] x (subst (IsContent (pair_bytes kb)) (sym (append-nil S)) content) below (λ y m. absurd m) in
        let none : at (pair_bytes kb) S q ≡ None = alone_none (pair_bytes kb) S q (λ z m. related-from_PartsBelow (kb z.0) q (below z m)) in
        puts S' None none (subst₂ (λ T U. IsPut (pair_bytes kb) T x U) (append-nil S) (sym e) put)

-- ---- items in order

-- each item is not less than the items before it
abbrev pub AreRanked : {X : Type 0} → (X → List ℕ) → List X → Type 0
AreRanked bytes xs = Ranked (λ x y. less (bytes y) (bytes x) ≡ false) xs

-- the items of a sorted list are ranked
pub ranked_from_sorted : {X : Type 0} (bytes : X → List ℕ) (xs : List X) → IsSortedByKey bytes bytes_cmp xs → AreRanked bytes xs
ranked_from_sorted bytes xs s = Ranked-from_AllPairs _ xs (λ i j d l m. sorted_far (λ a b. less (bytes a) (bytes b)) (ranks_by nat_list_cmp_total bytes) xs s i j d (omega arith) m)

-- the items, after one more was yielded
pub one_more : {X : Type 0} (xs came items : List X) (x : X) (rest : List X) → xs ≡ came ++ items → items ≡ x ∷ rest → xs ≡ (came ++ x ∷ []) ++ rest
one_more xs came items x rest whole is = whole ∙ ap (λ l. came ++ l) is ∙ sym (append_assoc came (x ∷ []) rest)

-- no item of S is greater than an item of `rest`
abbrev pub NoneOver : {X : Type 0} → (X → List ℕ) → List X → List X → Type 0
NoneOver {X} bytes S rest = (y z : X) → Member y S → Member z rest → less (bytes z) (bytes y) ≡ false

module _ {K V : Type 0} (kb : K → List ℕ) (S : List (K × V)) (items : List (K × V)) (x : K × V) (rest : List (K × V)) (is : items ≡ x ∷ rest) (order : NoneOver (pair_bytes kb) S items) where
  -- no item is greater than the next item
  pub none_greater : NoneGreater (pair_bytes kb) S (kb x.0)
  none_greater y m = order y x (Member-from_Contains y S m) (subst (Member x) (sym is) (inl refl))

  -- after the next item was put, no item is greater than an item of the rest
  pub order_more : AreRanked (pair_bytes kb) items → (S' : List (K × V)) → IsPut (pair_bytes kb) S (kept_pair (at (pair_bytes kb) S (kb x.0)) x) S' → NoneOver (pair_bytes kb) S' rest
  order_more ranked S' put y z m n = elim (put_member (pair_bytes kb) S S' (kept_pair (at (pair_bytes kb) S (kb x.0)) x) y put m) [
    | inl e ↦ ap (less (kb z.0)) (ap (pair_bytes kb) e ∙ own (at (pair_bytes kb) S (kb x.0)) refl) ∙ each_member (λ w. less (kb w.0) (kb x.0) ≡ false) rest z (subst (AreRanked (pair_bytes kb)) is ranked).0 n
    | inr h ↦ order y z h.0 (subst (Member z) (sym is) (inr n))
  ]
    where
      own : (o : Option (K × V)) → at (pair_bytes kb) S (kb x.0) ≡ o → kb (kept_pair o x).0 ≡ kb x.0
      own None e = refl
      own (Some old) e = (at_Some (pair_bytes kb) S (kb x.0) old e).1
