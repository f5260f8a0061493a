-- Where bytes are among the keys, and the ends of the pairs within a bound or with a prefix.
use Rattle.std.proofs.Common.{◌≡◌, ℕ, ◌<◌, Bool, true, false, not, ◌&&◌, List, [], ◌∷◌, filter, length, refl, ap, arith, sym, subst, Option, option_map, Some, None, Err, ◌∙◌, ◌⊎◌, inl, inr}
use Rattle.std.proofs.Math.Bool.{and-true}
use Rattle.std.proofs.lemmas.Bool.{false≢true, false_from_ne_true, and_from, and_parts, not-true, not_from_false}
use Rattle.std.proofs.lemmas.Bool.Decides.{eqb_tells}
use Rattle.std.specs.declared.ops.Bound.{Bound}
use Rattle.std.specs.declared.ops.Bound.TheVariants.{Included, Excluded, Unbounded}
use Rattle.blart_keys.specs.Bytes.{begins, less, related}
use Rattle.blart_keys.specs.Bounds.{is_from_start, is_up_to_end}
use Rattle.blart_keys.specs.Content.{IsContent, at, under, between}
use Rattle.blart_keys.proofs.PartLemmas.{less-from_PartsBelow, less-trans, less-irrefl, less_or, less-same}
use Rattle.blart_keys.proofs.RankLemmas.{Member, Ranked, each_member, filter_none, filter_all}
use Rattle.blart_keys.proofs.ContentLemmas.{Before, Ranked-from_content}
use Rattle.art_tree.specs.Begins.{Bytes, Begins}
use Rattle.art_tree.specs.Calls.Stops.{KeyEnds, QueryEnds}
use Rattle.art_tree.specs.Calls.Descents.{IsEndUnder}
use Rattle.art_tree.specs.Gaps.{LastBefore, IsLeafBefore, IsBeside, number_before_gap}
use Rattle.art_tree.specs.Leaves.{Numbered, AreDistinct, Has, bytes, keys_in, first_number, last_number, number_after, number_before, next_number}
use Rattle.art_kinds.specs.Nodes.{Node}
use Rattle.art_tree.specs.Seeks.{number_within, ends}
use Rattle.art_tree.specs.Calls.Seeking.{beside, IsAtOrBefore}
use Rattle.art_tree.specs.Invariant.Shape.{Shape}
use Rattle.art_tree.specs.declared.tree.point.Neighbour.{Neighbour}
use Rattle.art_kinds.specs.declared.records.ids.Child.{Child}
use Rattle.art_tree.proofs.BeginsLemmas.{Begins-itself, Begins-cases, Begins-from_begins}
use Rattle.art_tree.proofs.Ways.Ends.{first_less, last_greater}
use Rattle.art_tree.proofs.Ways.Related.{no_key, no_key_alone}
use Rattle.art_tree.proofs.NumberedPairs.Neighbours.{one_less, same_side, FirstFrom, IsLeafAfter, leaf_before_first_from, leaf_after_key, before_beside}
use Rattle.art_rows.proofs.CallerLemmas.{Has-first, Has-last, no_last}
use Rattle.art_tree.proofs.NumberedPairs.Answers.{pair, at_key, first_of_test, last_of_test, first_under, last_under}
use Rattle.art_tree.proofs.NumberedPairs.Changes.{passing_has}
use Rattle.art_tree.proofs.NumberedPairs.Keys.{key_of_member, member_of_key}
use Rattle.blart_keys.proofs.Options.{mapped_some, mapped_none}
use Rattle.art_tree.proofs.Invariant.SmallShapes.{unrelated}

-- ---- a prefix is less

-- a prefix of a list is not greater than the list
pub front_not_greater : (g k : Bytes) → Begins g k → less k g ≡ false
front_not_greater [] [] b = refl
front_not_greater [] (y ∷ k) b = refl
front_not_greater (x ∷ g) [] b = absurd b
front_not_greater (x ∷ g) (y ∷ k) b = less-same y x k g (sym b.0) ∙ front_not_greater g k b.1

-- and it is less, if it is shorter
pub front_less : (g k : Bytes) → Begins g k → length g < length k → less g k ≡ true
front_less [] [] b l = absurd (omega arith)
front_less [] (y ∷ k) b l = refl
front_less (x ∷ g) [] b l = absurd b
front_less (x ∷ g) (y ∷ k) b l = less-same x y g k b.0 ∙ front_less g k b.1 (omega arith)

module _ (keys : ℕ → Option Bytes) (q : Bytes) where
  -- the least key that begins with q is the first key that is not less
  pub least_from : (i : ℕ) → IsEndUnder keys true q i → FirstFrom keys q i
  least_from i u = record {
    key = u.key;
    is = u.is;
    from = front_not_greater q u.key u.front;
    first = λ j k e h. elim (Begins-cases q k) [
      | inl under ↦ first_less u j k e under
      | inr off ↦
          let more : less q k ≡ true = greater k h off in
          let never : Begins k q → ⊥ = λ b. false≢true (sym (front_not_greater k q b) ∙ more) in
          inr (sym (same_side q k q u.key off never (Begins-itself q) u.front).1 ∙ more)
    ];
  }
    where
      greater : (k : Bytes) → less k q ≡ false → (Begins q k → ⊥) → less q k ≡ true
      greater k h off = elim (less_or k q) [
        | inl s ↦ absurd (off (subst (Begins q) (sym s) (Begins-itself q)))
        | inr (inl l) ↦ absurd (false≢true (sym h ∙ l))
        | inr (inr l) ↦ l
      ]

  module _ {P : ℕ} (nodes : ℕ → Option Node) (root : Option Child) (s : Shape P keys nodes root) (i : ℕ) (m : Bytes) (is : keys i ≡ Some m) where
    -- a key that is a prefix of q, and shorter, is the last before q
    pub last_front : Begins m q → length m < length q → LastBefore keys q i
    last_front b lt = record {
      key = m;
      is = is;
      before = front_less m q b lt;
      last = λ j k e h. elim (eqb_tells j i) [
        | inl s ↦ inl s.1
        | inr off ↦ inr (sym (same_side m k q m (unrelated keys nodes root s i j m k is e (λ z. off.1 (sym z))) (unrelated keys nodes root s j i k m e is off.1) b (Begins-itself m)).0 ∙ h)
      ];
    }

-- ---- the ends of a list of pairs

module _ {K V : Type 0} where
  -- the first and the last number are the ends
  pub ends_are : (S : List (Numbered K V)) (a b : ℕ) → first_number S ≡ Some a → last_number S ≡ Some b → ends S ≡ Some (a, b)
  ends_are [] a b h k = absurd cc
  ends_are (p ∷ ps) a b h k =
      let e : p.0 ≡ a = cc in
      ap (option_map (λ last. (p.0, last))) k ∙ ap (λ (z : ℕ). Some (z, b)) e

  -- and the ends are the first and the last number
  pub are_ends : (S : List (Numbered K V)) (a b : ℕ) → ends S ≡ Some (a, b) → (first_number S ≡ Some a) × (last_number S ≡ Some b)
  are_ends [] a b h = absurd cc
  are_ends (p ∷ ps) a b h =
      let m = mapped_some (λ (last : ℕ). (p.0, last)) (last_number (p ∷ ps)) (a, b) h in
      (ap (λ (z : ℕ × ℕ). Some z.0) m.2, m.1 ∙ ap (λ (z : ℕ × ℕ). Some z.1) m.2)

  -- if there are no ends, there are no pairs
  pub no_pairs_between : (S : List (Numbered K V)) → ends S ≡ None → S ≡ []
  no_pairs_between [] h = refl
  no_pairs_between (p ∷ ps) h = no_last (p ∷ ps) (mapped_none {B = ℕ × ℕ} (λ last. (p.0, last)) (last_number (p ∷ ps)) h)

  -- the number within a bound is a leaf's number
  pub number_within_has : (bytes : Numbered K V → List ℕ) (S : List (Numbered K V)) → AreDistinct S → (b : Bound (List ℕ)) (side : Bool) (i : ℕ) → number_within bytes S b side ≡ Some i → Has S i
  number_within_has bytes S d b true i e = passing_has S (λ x. is_from_start b (bytes x) && is_up_to_end Unbounded (bytes x)) i d (Has-first (between bytes S b Unbounded) i e)
  number_within_has bytes S d b false i e = passing_has S (λ x. is_from_start Unbounded (bytes x) && is_up_to_end b (bytes x)) i d (Has-last (between bytes S Unbounded b) i e)

module _ {K V : Type 0} (key_bytes : K → Bytes) (pairs : List (Numbered K V)) (content : IsContent (bytes key_bytes) pairs) (distinct : AreDistinct pairs) where
  abbrev keys : ℕ → Option Bytes
  keys = keys_in key_bytes pairs

  -- ---- positions in the list of pairs

  -- only one number has the key q
  one_number : (q : Bytes) (i j : ℕ) → keys i ≡ Some q → keys j ≡ Some q → j ≡ i
  one_number q i j a b =
      let x : at (bytes key_bytes) pairs q ≡ Some (i, pair key_bytes pairs content distinct i q a) = at_key key_bytes pairs content distinct q i a in
      let y : at (bytes key_bytes) pairs q ≡ Some (j, pair key_bytes pairs content distinct j q b) = at_key key_bytes pairs content distinct q j b in
      let h : (j, pair key_bytes pairs content distinct j q b) ≡ (i, pair key_bytes pairs content distinct i q a) = cc in
      ap (λ (z : Numbered K V). z.0) h

  -- the leaf before a key's leaf is the leaf before the key
  pub leaf_before_key : (q : Bytes) (i : ℕ) → keys i ≡ Some q → IsLeafBefore keys q (number_before pairs i)
  leaf_before_key q i is =
      leaf_before_first_from key_bytes pairs content distinct q i (record {
        key = q;
        is = is;
        from = less-irrefl q;
        first = λ j k e h. elim (less_or k q) [
          | inl s ↦ inl (one_number q i j is (subst (λ (z : Bytes). keys j ≡ Some z) s e))
          | inr (inl l) ↦ absurd (false≢true (sym h ∙ l))
          | inr (inr l) ↦ inr l
        ];
      })

  module _ (q : Bytes) (none : (j : ℕ) → keys j ≡ Some q → ⊥) where
    -- each key is less than q or greater
    one_side : (j : ℕ) (k : Bytes) → keys j ≡ Some k → (less k q ≡ true) ⊎ (less q k ≡ true)
    one_side j k e = elim (less_or k q) [ inl s ↦ absurd (none j (subst (λ (z : Bytes). keys j ≡ Some z) s e)) | inr o ↦ o ]

    -- the leaf after the leaf before q is the leaf after q
    pub leaf_after_before : (prev : Option ℕ) → IsLeafBefore keys q prev → IsLeafAfter keys q (next_number prev pairs)
    leaf_after_before None st = go pairs refl
      where
        go : (B : List (Numbered K V)) → pairs ≡ B → IsLeafAfter keys q (first_number B)
        go [] a = λ j k e. absurd (let r = member_of_key key_bytes pairs j k e in subst (λ (l : List (Numbered K V)). Member r.0 l) a r.1)
        go (z ∷ B) a =
            let ranks : Ranked (Before (bytes key_bytes)) (z ∷ B) = subst (λ (l : List (Numbered K V)). Ranked (Before (bytes key_bytes)) l) a (Ranked-from_content (bytes key_bytes) pairs content) in
            let is = key_of_member key_bytes pairs z distinct (subst (λ (l : List (Numbered K V)). Member z l) (sym a) (inl refl)) in
            record {
              key = bytes key_bytes z;
              is = is;
              after = elim (one_side z.0 (bytes key_bytes z) is) [ inl l ↦ absurd (false≢true (sym (st z.0 (bytes key_bytes z) is) ∙ l)) | inr l ↦ l ];
              first = λ j k e h. (let r = member_of_key key_bytes pairs j k e in elim (subst (λ (l : List (Numbered K V)). Member r.0 l) a r.1) as (λ _. (j ≡ z.0) ⊎ (less (bytes key_bytes z) k ≡ true)) [
                | inl s ↦ inl (sym r.2 ∙ ap (λ (w : Numbered K V). w.0) (sym s))
                | inr n ↦ inr (subst (λ (k : Bytes). less (bytes key_bytes z) k ≡ true) r.3 (less-from_PartsBelow _ _ (each_member (Before (bytes key_bytes) z) B r.0 ranks.0 n)))
              ]);
            }
    leaf_after_before (Some i) st = onward (number_after pairs i) (leaf_after_key key_bytes pairs content distinct i st.key st.is)
      where
        onward : (o : Option ℕ) → IsLeafAfter keys st.key o → IsLeafAfter keys q o
        onward None a = λ j k e. false_from_ne_true (less q k) (λ h. false≢true (sym (a j k e) ∙ less-trans st.key q k st.before h))
        onward (Some n) a = record {
          key = a.key;
          is = a.is;
          after = elim (one_side n a.key a.is) [
            | inl l ↦ absurd (elim (st.last n a.key a.is l) [
              | inl s ↦ (let f : keys i ≡ Some a.key = ap keys (sym s) ∙ a.is in let own : keys i ≡ Some st.key = st.is in let same : a.key ≡ st.key = cc in false≢true (sym (less-irrefl st.key) ∙ subst (λ (z : Bytes). less st.key z ≡ true) same a.after))
              | inr m ↦ one_less st.key a.key a.after m
            ])
            | inr l ↦ l
          ];
          first = λ j k e h. a.first j k e (less-trans st.key q k st.before h);
        }

  -- ---- the pairs within a bound

  -- the leaf after q is the first that passes a test for greater keys
  first_after_key : (q : Bytes) (o : Option ℕ) → IsLeafAfter keys q o → (test : Bytes → Bool) → ((j : ℕ) (k : Bytes) → keys j ≡ Some k → test k ≡ less q k) → first_number (filter (λ x. test (bytes key_bytes x)) pairs) ≡ o
  first_after_key q None a test agrees = ap first_number (filter_none (λ x. test (bytes key_bytes x)) pairs (λ y m. (let e = key_of_member key_bytes pairs y distinct m in agrees y.0 (bytes key_bytes y) e ∙ a y.0 (bytes key_bytes y) e)))
  first_after_key q (Some i) a test agrees = first_of_test key_bytes pairs content distinct test i a.key a.is (agrees i a.key a.is ∙ a.after) (λ j k e t. a.first j k e (sym (agrees j k e) ∙ t))

  -- the leaf before q is the last that passes a test for lesser keys
  last_before : (q : Bytes) (o : Option ℕ) → IsLeafBefore keys q o → (test : Bytes → Bool) → ((j : ℕ) (k : Bytes) → keys j ≡ Some k → test k ≡ less k q) → last_number (filter (λ x. test (bytes key_bytes x)) pairs) ≡ o
  last_before q None a test agrees = ap last_number (filter_none (λ x. test (bytes key_bytes x)) pairs (λ y m. (let e = key_of_member key_bytes pairs y distinct m in agrees y.0 (bytes key_bytes y) e ∙ a y.0 (bytes key_bytes y) e)))
  last_before q (Some i) a test agrees = last_of_test key_bytes pairs content distinct test i a.key a.is (agrees i a.key a.is ∙ a.before) (λ j k e t. a.last j k e (sym (agrees j k e) ∙ t))

  -- with no bound, the ends of all pairs
  pub number_within_all_start : number_within (bytes key_bytes) pairs Unbounded true ≡ first_number pairs
  number_within_all_start = ap first_number (filter_all (λ x. is_from_start Unbounded (bytes key_bytes x) && is_up_to_end Unbounded (bytes key_bytes x)) pairs (λ y m. refl))

  pub number_within_all_end : number_within (bytes key_bytes) pairs Unbounded false ≡ last_number pairs
  number_within_all_end = ap last_number (filter_all (λ x. is_from_start Unbounded (bytes key_bytes x) && is_up_to_end Unbounded (bytes key_bytes x)) pairs (λ y m. refl))

  module _ (q : Bytes) (i : ℕ) (is : keys i ≡ Some q) where
    -- a key is the end of the pairs within a bound that includes it
    pub number_within_at : (b : Bool) → number_within (bytes key_bytes) pairs (Included q) b ≡ Some i
    number_within_at true =
        first_of_test key_bytes pairs content distinct (λ k. is_from_start (Included q) k && is_up_to_end Unbounded k) i q is (and_from (not (less q q)) true (not_from_false (less q q) (less-irrefl q)) refl)
        (λ j k e t. elim (less_or k q) [
          | inl s ↦ inl (one_number q i j is (subst (λ (z : Bytes). keys j ≡ Some z) s e))
          | inr (inl l) ↦ absurd (false≢true (sym (not-true (less k q) (and_parts (not (less k q)) true t).0) ∙ l))
          | inr (inr l) ↦ inr l
        ])
    number_within_at false =
        last_of_test key_bytes pairs content distinct (λ k. is_from_start Unbounded k && is_up_to_end (Included q) k) i q is (not_from_false (less q q) (less-irrefl q))
        (λ j k e t. elim (less_or k q) [
          | inl s ↦ inl (one_number q i j is (subst (λ (z : Bytes). keys j ≡ Some z) s e))
          | inr (inl l) ↦ inr l
          | inr (inr l) ↦ absurd (false≢true (sym (not-true (less q k) t) ∙ l))
        ])

    -- and its neighbours are the ends of the pairs within a bound that excludes it
    pub number_within_after : number_within (bytes key_bytes) pairs (Excluded q) true ≡ number_after pairs i
    number_within_after = first_after_key q (number_after pairs i) (leaf_after_key key_bytes pairs content distinct i q is) (λ k. is_from_start (Excluded q) k && is_up_to_end Unbounded k) (λ j k e. and-true (less q k))

    pub number_within_before : number_within (bytes key_bytes) pairs (Excluded q) false ≡ number_before pairs i
    number_within_before = last_before q (number_before pairs i) (leaf_before_key q i is) (λ k. is_from_start Unbounded k && is_up_to_end (Excluded q) k) (λ j k e. refl)

  module _ (q : Bytes) (none : (j : ℕ) → keys j ≡ Some q → ⊥) (prev : Option ℕ) (st : IsLeafBefore keys q prev) where
    -- if no key is q, a key that is not less is greater, and a key that is not greater is less
    not_less : (j : ℕ) (k : Bytes) → keys j ≡ Some k → not (less k q) ≡ less q k
    not_less j k e = elim (one_side q none j k e) [
      | inl l ↦ ap not l ∙ sym (false_from_ne_true (less q k) (λ h. one_less k q l h))
      | inr l ↦ not_from_false (less k q) (false_from_ne_true (less k q) (λ h. one_less k q h l)) ∙ sym l
    ]

    not_greater : (j : ℕ) (k : Bytes) → keys j ≡ Some k → not (less q k) ≡ less k q
    not_greater j k e = elim (one_side q none j k e) [
      | inl l ↦ not_from_false (less q k) (false_from_ne_true (less q k) (λ h. one_less k q l h)) ∙ sym l
      | inr l ↦ ap not l ∙ sym (false_from_ne_true (less k q) (λ h. one_less k q h l))
    ]

    -- the leaves beside q are the ends of the pairs within its bounds
    pub number_within_included : (b : Bool) → number_within (bytes key_bytes) pairs (Included q) b ≡ beside prev pairs b
    number_within_included true = first_after_key q (next_number prev pairs) (leaf_after_before q none prev st) (λ k. is_from_start (Included q) k && is_up_to_end Unbounded k) (λ j k e. and-true (not (less k q)) ∙ not_less j k e)
    number_within_included false = last_before q prev st (λ k. is_from_start Unbounded k && is_up_to_end (Included q) k) not_greater

    pub number_within_excluded : (b : Bool) → number_within (bytes key_bytes) pairs (Excluded q) b ≡ beside prev pairs b
    number_within_excluded true = first_after_key q (next_number prev pairs) (leaf_after_before q none prev st) (λ k. is_from_start (Excluded q) k && is_up_to_end Unbounded k) (λ j k e. and-true (less q k))
    number_within_excluded false = last_before q prev st (λ k. is_from_start Unbounded k && is_up_to_end (Excluded q) k) (λ j k e. refl)

  -- ---- the pairs with a prefix

  -- the first and the last leaf of those whose keys begin with q
  pub ends_under : (q : Bytes) (a b : ℕ) → IsEndUnder keys true q a → IsEndUnder keys false q b → ends (under (bytes key_bytes) pairs q) ≡ Some (a, b)
  ends_under q a b u w = ends_are (under (bytes key_bytes) pairs q) a b (first_under key_bytes pairs content distinct q a u.key u.is u.front (first_less u)) (last_under key_bytes pairs content distinct q b w.key w.is w.front (last_greater w))

  -- if no key begins with q, there are no ends
  pub none_under : (q : Bytes) → ((j : ℕ) (k : Bytes) → keys j ≡ Some k → Begins q k → ⊥) → ends (under (bytes key_bytes) pairs q) ≡ None
  none_under q never = ap ends (filter_none (λ x. begins q (bytes key_bytes x)) pairs (λ y m. false_from_ne_true (begins q (bytes key_bytes y)) (λ t. never y.0 (bytes key_bytes y) (key_of_member key_bytes pairs y distinct m) (Begins-from_begins q (bytes key_bytes y) t))))

  module _ (nodes : ℕ → Option Node) (q : Bytes) where
    -- if a key is a proper prefix of q, its leaf is the leaf before q, and no key is q
    pub at_or_before_shorter : {P : ℕ} → (root : Option Child) → Shape P keys nodes root → (i : ℕ) → KeyEnds keys i q → IsAtOrBefore keys q (Err (Some i))
    at_or_before_shorter root s i m =
        let l : length m.key < length q = m.shorter in
        (last_front keys q nodes root s i m.key m.is m.begins l, no_key keys nodes root s i m.key m.is q (inl m.begins) (omega arith))

    -- the same if q is a prefix of some keys
    pub at_or_before_longer : {P : ℕ} → (c : Child) → QueryEnds P (keys_in key_bytes pairs) nodes c q → (first : ℕ) → IsEndUnder keys true q first → (o : Option ℕ) → o ≡ number_before pairs first → IsAtOrBefore keys q (Err o)
    at_or_before_longer c m first u o e =
        let l : length q < length m.key = m.longer in
        (subst (λ (o : Option ℕ). IsLeafBefore keys q o) (sym e) (leaf_before_first_from key_bytes pairs content distinct q first (least_from keys q first u)), no_key keys nodes m.root m.shape m.leaf m.key m.is q (inr m.begun) (omega arith))

  -- and beside a child
  pub at_or_before_beside : (q : Bytes) → ((j : ℕ) (k : Bytes) → keys j ≡ Some k → related k q ≡ false) → (beside : Neighbour) → IsBeside keys q beside → (o : Option ℕ) → o ≡ number_before_gap pairs beside → IsAtOrBefore keys q (Err o)
  at_or_before_beside q alone beside st o e = (subst (λ (o : Option ℕ). IsLeafBefore keys q o) (sym e) (before_beside key_bytes pairs content distinct q alone beside st), no_key_alone keys q alone)
