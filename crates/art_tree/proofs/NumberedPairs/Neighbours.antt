-- The leaves before and after a key that is related to no stored key.
use Rattle.std.proofs.Common.{◌≡◌, ℕ, ◌<◌, true, false, List, [], ◌∷◌, ◌++◌, append_assoc, refl, ap, arith, sym, subst, Option, Some, None, IsSome, ◌∙◌, ◌⊎◌, inl, inr}
use Rattle.std.proofs.lemmas.Bool.{cases_order, cases_Bool, false≢true, false_from_ne_true}
use Rattle.std.proofs.lemmas.Bool.Decides.{eqb_tells}
use Rattle.blart_keys.specs.Bytes.{less, related, PartsBelow}
use Rattle.blart_keys.specs.Content.{IsContent, IsPut}
use Rattle.blart_keys.proofs.PartLemmas.{PartsBelow-from, less-from_PartsBelow, less-trans, less-irrefl, less_or, less-same, less-first, less-over}
use Rattle.blart_keys.proofs.RankLemmas.{Member, Ranked, each_member, Member-append_left, Member-append_right, Member-append_cases, Ranked-across, Ranked-left, Ranked-right}
use Rattle.blart_keys.proofs.ContentLemmas.{Before, Ranked-from_content, put_between, related-same, unrelated_back}
use Rattle.art_tree.specs.Begins.{Bytes, Begins, next_byte}
use Rattle.art_tree.specs.Gaps.{LastBefore, FirstAfter, IsLeafBefore, IsBeside, number_before_gap}
use Rattle.art_tree.specs.declared.tree.point.Neighbour.{Neighbour}
use Rattle.art_tree.specs.declared.tree.point.Neighbour.TheVariants.{AfterLeaf, BeforeLeaf}
use Rattle.art_kinds.specs.Edges.{child_at, IsPrevious, IsNext}
use Rattle.art_tree.specs.Leaves.{Numbered, bytes, keys_in, leaf_in, AreDistinct, with_pair_after, first_number, number_after, number_before, number_before_from}
use Rattle.art_kinds.specs.Nodes.{Node}
use Rattle.art_tree.specs.Invariant.Shape.{Shape}
use Rattle.art_kinds.specs.declared.records.ids.Child.{Child}
use Rattle.art_kinds.specs.declared.records.ids.Edge.{Edge}
use Rattle.blart_keys.proofs.Options.{not_some}
use Rattle.art_tree.proofs.BeginsLemmas.{Begins-more, Begins-cases, Begins-edge_front, Begins-trans, related-from_front}
use Rattle.art_tree.proofs.NumberedPairs.Passing.{parted_less}
use Rattle.art_tree.proofs.NumberedPairs.Keys.{key_of_member, member_of_key, pair_of_key}

-- two lists are not less than each other
pub one_less : (a b : Bytes) → less a b ≡ true → less b a ≡ true → ⊥
one_less a b h k = false≢true (sym (less-irrefl a) ∙ less-trans a b a h k)

-- a key that is not related is less or greater
pub less_cases : (a q : Bytes) → related a q ≡ false → (less a q ≡ true) ⊎ (less q a ≡ true)
less_cases a q h = elim (less_or a q) [ inl e ↦ absurd (false≢true (sym h ∙ related-same a q e)) | inr o ↦ o ]

-- a key that leaves g before its end is on the same side of all keys that begin with g
pub same_side : (g k a b : Bytes) → (Begins g k → ⊥) → (Begins k g → ⊥) → Begins g a → Begins g b → (less k a ≡ less k b) × (less a k ≡ less b k)
same_side [] k a b off on ga gb = absurd (off tt)
same_side (x ∷ g) [] a b off on ga gb = absurd (on tt)
same_side (x ∷ g) (z ∷ k) [] b off on ga gb = absurd ga
same_side (x ∷ g) (z ∷ k) (y ∷ a) [] off on ga gb = absurd gb
same_side (x ∷ g) (z ∷ k) (y ∷ a) (w ∷ b) off on ga gb =
    let e : y ≡ x = sym ga.0 in
    let f : w ≡ x = sym gb.0 in
    elim (cases_order z x) [
      | inl s ↦
          let r = same_side g k a b (λ h. off (sym s, h)) (λ h. on (s, h)) ga.1 gb.1 in
          (less-same z y k a (s ∙ sym e) ∙ r.0 ∙ sym (less-same z w k b (s ∙ sym f)), less-same y z a k (e ∙ sym s) ∙ r.1 ∙ sym (less-same w z b k (f ∙ sym s)))
      | inr (inl l) ↦ (less-first z y k a (omega arith) ∙ sym (less-first z w k b (omega arith)), less-over y z a k (omega arith) ∙ sym (less-over w z b k (omega arith)))
      | inr (inr l) ↦ (less-over z y k a (omega arith) ∙ sym (less-over z w k b (omega arith)), less-first y z a k (omega arith) ∙ sym (less-first w z b k (omega arith)))
    ]

module _ (keys : ℕ → Option Bytes) (q : Bytes) (g : Bytes) (gq : Begins g q) (alone : (j : ℕ) (k : Bytes) → keys j ≡ Some k → related k q ≡ false) where
  -- a key that does not begin with g is on the same side of q and of all keys that begin with g
  outside : (j : ℕ) (k m : Bytes) → keys j ≡ Some k → Begins g m → (Begins g k → ⊥) → (less k q ≡ less k m) × (less q k ≡ less m k)
  outside j k m is gm off = same_side g k q m off (λ h. false≢true (sym (alone j k is) ∙ related-from_front k q (Begins-trans k g q h gq))) gq gm

  -- the greatest key that begins with g and is less than q is the last before q
  pub last_below : (i : ℕ) (m : Bytes) → keys i ≡ Some m → Begins g m → ((j : ℕ) (k : Bytes) → keys j ≡ Some k → Begins g k → less k q ≡ true → (j ≡ i) ⊎ (less k m ≡ true)) → less m q ≡ true → LastBefore keys q i
  last_below i m is gm most lt = record {
    key = m;
    is = is;
    before = lt;
    last = λ j k e l. elim (Begins-cases g k) [ inl gk ↦ most j k e gk l | inr off ↦ inr (sym (outside j k m e gm off).0 ∙ l) ];
  }

  -- the least key that begins with g and is greater than q is the first after q
  pub first_below : (i : ℕ) (m : Bytes) → keys i ≡ Some m → Begins g m → ((j : ℕ) (k : Bytes) → keys j ≡ Some k → Begins g k → less q k ≡ true → (j ≡ i) ⊎ (less m k ≡ true)) → less q m ≡ true → FirstAfter keys q i
  first_below i m is gm most lt = record {
    key = m;
    is = is;
    after = lt;
    first = λ j k e l. elim (Begins-cases g k) [ inl gk ↦ most j k e gk l | inr off ↦ inr (sym (outside j k m e gm off).1 ∙ l) ];
  }

-- ---- beside an edge at which q leaves the keys below it

module _ (keys : ℕ → Option Bytes) (q : Bytes) (alone : (j : ℕ) (k : Bytes) → keys j ≡ Some k → related k q ≡ false) (t : Bytes) (b a : ℕ) (qt : Begins (t ++ b ∷ []) q) where
  -- the keys below an edge continue from t with the byte a, and q with b
  below_less : (k : Bytes) → Begins (t ++ a ∷ []) k → a < b → less k q ≡ true
  below_less k h l = parted_less t k q a b h qt l

  below_more : (k : Bytes) → Begins (t ++ a ∷ []) k → b < a → less q k ≡ true
  below_more k h l = parted_less t q k b a qt h l

  module _ (g : Bytes) (gt : Begins g t) (all : (j : ℕ) (k : Bytes) → keys j ≡ Some k → Begins g k → Begins (t ++ a ∷ []) k) (i : ℕ) (m : Bytes) (is : keys i ≡ Some m) (gm : Begins g m) where
    gq : Begins g q
    gq = Begins-trans g t q gt (Begins-edge_front t q b qt)

    -- if q's byte is greater, the greatest key below the edge is the last before q
    pub last_beside : a < b → ((j : ℕ) (k : Bytes) → keys j ≡ Some k → Begins g k → (j ≡ i) ⊎ (less k m ≡ true)) → LastBefore keys q i
    last_beside l most = last_below keys q g gq alone i m is gm (λ j k e gk lt. most j k e gk) (below_less m (all i m is gm) l)

    -- if q's byte is less, the least key below the edge is the first after q
    pub first_beside : b < a → ((j : ℕ) (k : Bytes) → keys j ≡ Some k → Begins g k → (j ≡ i) ⊎ (less m k ≡ true)) → FirstAfter keys q i
    first_beside l most = first_below keys q g gq alone i m is gm (λ j k e gk lt. most j k e gk) (below_more m (all i m is gm) l)

-- ---- at a node at which q leaves

module _ {P : ℕ} (keys : ℕ → Option Bytes) (nodes : ℕ → Option Node) (root : Option Child) (s : Shape P keys nodes root) (q : Bytes) (alone : (j : ℕ) (k : Bytes) → keys j ≡ Some k → related k q ≡ false)
    (n : ℕ) (x : Node) (x_is : nodes n ≡ Some x) (b : ℕ) (qt : Begins (s.front_of n ++ b ∷ []) q) where
  abbrev t : Bytes
  t = s.front_of n

  tq : Begins t q
  tq = Begins-edge_front t q b qt

  -- a key below the node is below one of its edges, and continues with that edge's byte
  by_edge : (j : ℕ) (k : Bytes) → keys j ≡ Some k → Begins t k → Begins (t ++ next_byte t k ∷ []) k × IsSome (child_at x.edges (next_byte t k))
  by_edge j k e tk = (Begins-more t k tk ((s.node n x x_is).longer j k e tk), (s.node n x x_is).edge j k e tk)

  -- the greatest key below the edge before q's byte is the last before q
  pub last_at_node : (e : Edge) → IsPrevious x.edges b (Some e) → child_at x.edges b ≡ None → (i : ℕ) (m : Bytes) → keys i ≡ Some m → Begins (t ++ e.byte ∷ []) m → ((j : ℕ) (k : Bytes) → keys j ≡ Some k → Begins (t ++ e.byte ∷ []) k → (j ≡ i) ⊎ (less k m ≡ true)) → LastBefore keys q i
  last_at_node e prev none i m is tm most =
      last_below keys q t tq alone i m is (Begins-edge_front t m e.byte tm)
      (λ j k is tk lt.
      let r = by_edge j k is tk in
      elim (cases_order (next_byte t k) e.byte) [
        | inl same ↦ most j k is (subst (λ (c : ℕ). Begins (t ++ c ∷ []) k) same r.0)
        | inr (inl l) ↦ inr (parted_less t k m (next_byte t k) e.byte r.0 tm l)
        | inr (inr l) ↦
            elim (cases_order (next_byte t k) b) [
              | inl at ↦ absurd (not_some (child_at x.edges (next_byte t k)) (ap (child_at x.edges) at ∙ none) r.1)
              | inr (inl l2) ↦ absurd (not_some (child_at x.edges (next_byte t k)) (prev.2 (next_byte t k) l l2) r.1)
              | inr (inr l2) ↦ absurd (one_less k q lt (parted_less t q k b (next_byte t k) qt r.0 l2))
            ]
      ])
      (parted_less t m q e.byte b tm qt prev.0)

  -- the least key below the edge after q's byte is the first after q
  pub first_at_node : (e : Edge) → IsNext x.edges b (Some e) → child_at x.edges b ≡ None → (i : ℕ) (m : Bytes) → keys i ≡ Some m → Begins (t ++ e.byte ∷ []) m → ((j : ℕ) (k : Bytes) → keys j ≡ Some k → Begins (t ++ e.byte ∷ []) k → (j ≡ i) ⊎ (less m k ≡ true)) → FirstAfter keys q i
  first_at_node e next none i m is tm least =
      first_below keys q t tq alone i m is (Begins-edge_front t m e.byte tm)
      (λ j k is tk lt.
      let r = by_edge j k is tk in
      elim (cases_order (next_byte t k) e.byte) [
        | inl same ↦ least j k is (subst (λ (c : ℕ). Begins (t ++ c ∷ []) k) same r.0)
        | inr (inr l) ↦ inr (parted_less t m k e.byte (next_byte t k) tm r.0 l)
        | inr (inl l) ↦
            elim (cases_order (next_byte t k) b) [
              | inl at ↦ absurd (not_some (child_at x.edges (next_byte t k)) (ap (child_at x.edges) at ∙ none) r.1)
              | inr (inr l2) ↦ absurd (not_some (child_at x.edges (next_byte t k)) (next.2 (next_byte t k) l2 l) r.1)
              | inr (inl l2) ↦ absurd (one_less q k lt (parted_less t k q (next_byte t k) b r.0 qt l2))
            ]
      ])
      (parted_less t q m b e.byte qt tm next.0)

-- the leaf has the least key that is not less than q
pub record FirstFrom (keys : ℕ → Option Bytes) (q : Bytes) (i : ℕ) : Type 0 where
  pub key : Bytes
  pub is : keys i ≡ Some key
  pub from : less key q ≡ false
  pub first : (j : ℕ) (k : Bytes) → keys j ≡ Some k → less k q ≡ false → (j ≡ i) ⊎ (less key k ≡ true)

-- the leaf after q, or none if no key is greater
abbrev pub IsLeafAfter : (ℕ → Option Bytes) → Bytes → Option ℕ → Type 0
IsLeafAfter keys q None = (j : ℕ) (k : Bytes) → keys j ≡ Some k → less q k ≡ false
IsLeafAfter keys q (Some i) = FirstAfter keys q i

-- ---- in the list of pairs

-- the number of the last pair, or `back` if there is none
abbrev pub last_or : {K V : Type 0} → Option ℕ → List (Numbered K V) → Option ℕ
last_or back [] = back
last_or back (p ∷ ps) = last_or (Some p.0) ps

module _ {K V : Type 0} where
  -- the list, cut at a pair
  pub record IsSplit (ps : List (Numbered K V)) (i : ℕ) : Type 0 where
    pub before : List (Numbered K V)
    pub pair : K × V
    pub after : List (Numbered K V)
    pub is : ps ≡ before ++ (i, pair) ∷ after
    pub placed : (x : Numbered K V) → with_pair_after (Some i) x ps ≡ before ++ (i, pair) ∷ x ∷ after
    pub previous : (back : Option ℕ) → number_before_from back ps i ≡ last_or back before
    pub next : number_after ps i ≡ first_number after

  split : (ps : List (Numbered K V)) (i : ℕ) (p : K × V) → leaf_in ps i ≡ Some p → IsSplit ps i
  split [] i p e = absurd cc
  split (z ∷ ps) i p e =
      elim (eqb_tells z.0 i) [
        | inl h ↦ record {
          before = [];
          pair = z.1;
          after = ps;
          is = λ j. (h.1 j, z.1) ∷ ps;
          placed = λ x. rw h.0 (λ j. (h.1 j, z.1) ∷ x ∷ ps);
          previous = λ back. rw h.0 refl;
          next = rw h.0 refl;
        }
        | inr h ↦
            let r = split ps i p (rw h.0 at e) in
            record {
              before = z ∷ r.before;
              pair = r.pair;
              after = r.after;
              is = ap (λ l. z ∷ l) r.is;
              placed = λ x. rw h.0 (ap (λ l. z ∷ l) (r.placed x));
              previous = λ back. rw h.0 (r.previous (Some z.0));
              next = rw h.0 r.next;
            }
      ]

module _ {K V : Type 0} (key_bytes : K → Bytes) (pairs : List (Numbered K V)) (content : IsContent (bytes key_bytes) pairs) (distinct : AreDistinct pairs) where
  ranked : Ranked (Before (bytes key_bytes)) pairs
  ranked = Ranked-from_content (bytes key_bytes) pairs content

  -- the pair of a number, and the list cut at it
  module _ (i : ℕ) (k : Bytes) (k_is : keys_in key_bytes pairs i ≡ Some k) where
    cut : IsSplit pairs i
    cut = let p = pair_of_key key_bytes pairs i k k_is in split pairs i p.0 p.1

    here : Member (i, cut.pair) pairs
    here = subst (λ (l : List (Numbered K V)). Member (i, cut.pair) l) (sym cut.is) (Member-append_right (i, cut.pair) cut.before ((i, cut.pair) ∷ cut.after) (inl refl))

    key_here : key_bytes cut.pair.0 ≡ k
    key_here =
        let e : keys_in key_bytes pairs i ≡ Some (key_bytes cut.pair.0) = key_of_member key_bytes pairs (i, cut.pair) distinct here in
        cc

    ranked_here : Ranked (Before (bytes key_bytes)) (cut.before ++ (i, cut.pair) ∷ cut.after)
    ranked_here = subst (λ (l : List (Numbered K V)). Ranked (Before (bytes key_bytes)) l) cut.is ranked

    before_here : (y : Numbered K V) → Member y cut.before → (less (bytes key_bytes y) k ≡ true) × Member y pairs
    before_here y m = (
      subst (λ (k : Bytes). less (bytes key_bytes y) k ≡ true) key_here (less-from_PartsBelow _ _ (Ranked-across (Before (bytes key_bytes)) cut.before ((i, cut.pair) ∷ cut.after) ranked_here y (i, cut.pair) m (inl refl))),
      subst (λ (l : List (Numbered K V)). Member y l) (sym cut.is) (Member-append_left y cut.before ((i, cut.pair) ∷ cut.after) m),
    )

    after_here : (y : Numbered K V) → Member y cut.after → (less k (bytes key_bytes y) ≡ true) × Member y pairs
    after_here y m = (
      subst (λ (k : Bytes). less k (bytes key_bytes y) ≡ true) key_here (less-from_PartsBelow _ _ (each_member (Before (bytes key_bytes) (i, cut.pair)) cut.after y (Ranked-right (Before (bytes key_bytes)) cut.before ((i, cut.pair) ∷ cut.after) ranked_here).0 m)),
      subst (λ (l : List (Numbered K V)). Member y l) (sym cut.is) (Member-append_right y cut.before ((i, cut.pair) ∷ cut.after) (inr m)),
    )

    -- a pair with this number has its key
    key_of_number : (y : Numbered K V) → Member y pairs → y.0 ≡ i → bytes key_bytes y ≡ k
    key_of_number y m e =
        let a : keys_in key_bytes pairs i ≡ Some (bytes key_bytes y) = ap (keys_in key_bytes pairs) (sym e) ∙ key_of_member key_bytes pairs y distinct m in
        cc

  -- the last of some pairs in ascending order is greater than the others
  last_is : (ps : List (Numbered K V)) (z : Numbered K V) → Ranked (Before (bytes key_bytes)) (z ∷ ps)
      → (y : Numbered K V) × (last_or (Some z.0) ps ≡ Some y.0) × Member y (z ∷ ps) × ((w : Numbered K V) → Member w (z ∷ ps) → (w ≡ y) ⊎ (less (bytes key_bytes w) (bytes key_bytes y) ≡ true))
  last_is [] z r = (z, refl, inl refl, λ w m. elim m [ inl e ↦ inl (sym e) | inr n ↦ absurd n ])
  last_is (a ∷ ps) z r =
      let h = last_is ps a r.1 in (
        h.0,
        h.1,
        inr h.2,
        λ w m. elim m [
          | inl e ↦ inr (subst (λ (w : Numbered K V). less (bytes key_bytes w) (bytes key_bytes h.0) ≡ true) e (less-from_PartsBelow _ _ (each_member (Before (bytes key_bytes) z) (a ∷ ps) h.0 r.0 h.2)))
          | inr n ↦ h.3 w n
        ],
      )

  -- the leaf before q is the leaf before the first that is not less
  pub leaf_before_first_from : (q : Bytes) (i : ℕ) → FirstFrom (keys_in key_bytes pairs) q i → IsLeafBefore (keys_in key_bytes pairs) q (number_before pairs i)
  leaf_before_first_from q i st = subst (λ (o : Option ℕ). IsLeafBefore (keys_in key_bytes pairs) q o) (sym (p.previous None)) (go p.before refl)
    where
      p : IsSplit pairs i
      p = cut i st.key st.is

      -- neither this pair nor a later one is less than q
      not_late : (y : Numbered K V) → Member y ((i, p.pair) ∷ p.after) → less (bytes key_bytes y) q ≡ true → ⊥
      not_late y (inl e) h = false≢true (sym st.from ∙ subst (λ (k : Bytes). less k q ≡ true) (ap (bytes key_bytes) (sym e) ∙ key_here i st.key st.is) h)
      not_late y (inr n) h = false≢true (sym st.from ∙ less-trans st.key (bytes key_bytes y) q (after_here i st.key st.is y n).0 h)

      -- each earlier pair is less
      early : (y : Numbered K V) → Member y p.before → less (bytes key_bytes y) q ≡ true
      early y m =
          let b = before_here i st.key st.is y m in
          elim (cases_Bool (less (bytes key_bytes y) q)) [
            | inl h ↦ h
            | inr h ↦ elim (st.first y.0 (bytes key_bytes y) (key_of_member key_bytes pairs y distinct b.1) h) [
              | inl s ↦ absurd (one_less (bytes key_bytes y) st.key b.0 (subst (λ (k : Bytes). less k (bytes key_bytes y) ≡ true) (key_of_number i st.key st.is y b.1 s) (subst (λ (k : Bytes). less (bytes key_bytes y) k ≡ true) (sym (key_of_number i st.key st.is y b.1 s)) b.0)))
              | inr l ↦ absurd (one_less (bytes key_bytes y) st.key b.0 l)
            ]
          ]

      -- a key less than q is the key of an earlier pair
      is_early : (j : ℕ) (k : Bytes) → keys_in key_bytes pairs j ≡ Some k → less k q ≡ true → (y : Numbered K V) × Member y p.before × (y.0 ≡ j) × (bytes key_bytes y ≡ k)
      is_early j k e h =
          let r = member_of_key key_bytes pairs j k e in
          elim (Member-append_cases r.0 p.before ((i, p.pair) ∷ p.after) (subst (λ (l : List (Numbered K V)). Member r.0 l) p.is r.1)) [
            | inl m ↦ (r.0, m, r.2, r.3)
            | inr m ↦ absurd (not_late r.0 m (subst (λ (k : Bytes). less k q ≡ true) (sym r.3) h))
          ]

      go : (A : List (Numbered K V)) → p.before ≡ A → IsLeafBefore (keys_in key_bytes pairs) q (last_or None A)
      go [] a = λ j k e. false_from_ne_true (less k q) (λ h. let r = is_early j k e h in subst (λ (l : List (Numbered K V)). Member r.0 l) a r.1)
      go (z ∷ A) a =
          let back : (y : Numbered K V) → Member y (z ∷ A) → Member y p.before = λ y m. subst (λ (l : List (Numbered K V)). Member y l) (sym a) m in
          let ranks : Ranked (Before (bytes key_bytes)) (z ∷ A) = subst (λ (l : List (Numbered K V)). Ranked (Before (bytes key_bytes)) l) a (Ranked-left (Before (bytes key_bytes)) p.before ((i, p.pair) ∷ p.after) (ranked_here i st.key st.is)) in
          let y = last_is A z ranks in
          let b = before_here i st.key st.is y.0 (back y.0 y.2) in
          subst (λ (o : Option ℕ). IsLeafBefore (keys_in key_bytes pairs) q o) (sym y.1) (record {
            key = bytes key_bytes y.0;
            is = key_of_member key_bytes pairs y.0 distinct b.1;
            before = early y.0 (back y.0 y.2);
            last = λ j k e h. (let r = is_early j k e h in elim (y.3 r.0 (subst (λ (l : List (Numbered K V)). Member r.0 l) a r.1)) [
              | inl s ↦ inl (sym r.2 ∙ ap (λ (w : Numbered K V). w.0) s)
              | inr l ↦ inr (subst (λ (k : Bytes). less k (bytes key_bytes y.0) ≡ true) r.3 l)
            ]);
          })

  -- the leaf after a key's leaf is the leaf after the key
  pub leaf_after_key : (i : ℕ) (q : Bytes) → keys_in key_bytes pairs i ≡ Some q → IsLeafAfter (keys_in key_bytes pairs) q (number_after pairs i)
  leaf_after_key i q is = subst (λ (o : Option ℕ). IsLeafAfter (keys_in key_bytes pairs) q o) (sym p.next) (go p.after refl)
    where
      p : IsSplit pairs i
      p = cut i q is

      -- a greater key is the key of a later pair
      is_late : (j : ℕ) (k : Bytes) → keys_in key_bytes pairs j ≡ Some k → less q k ≡ true → (y : Numbered K V) × Member y p.after × (y.0 ≡ j) × (bytes key_bytes y ≡ k)
      is_late j k e h =
          let r = member_of_key key_bytes pairs j k e in
          elim (Member-append_cases r.0 p.before ((i, p.pair) ∷ p.after) (subst (λ (l : List (Numbered K V)). Member r.0 l) p.is r.1)) [
            | inl m ↦ absurd (one_less q k h (subst (λ (z : Bytes). less z q ≡ true) r.3 (before_here i q is r.0 m).0))
            | inr (inl s) ↦ (let same : k ≡ q = sym r.3 ∙ ap (bytes key_bytes) (sym s) ∙ key_here i q is in absurd (false≢true (sym (less-irrefl q) ∙ subst (λ (z : Bytes). less q z ≡ true) same h)))
            | inr (inr n) ↦ (r.0, n, r.2, r.3)
          ]

      go : (B : List (Numbered K V)) → p.after ≡ B → IsLeafAfter (keys_in key_bytes pairs) q (first_number B)
      go [] a = λ j k e. false_from_ne_true (less q k) (λ h. let r = is_late j k e h in subst (λ (l : List (Numbered K V)). Member r.0 l) a r.1)
      go (z ∷ B) a =
          let b = after_here i q is z (subst (λ (l : List (Numbered K V)). Member z l) (sym a) (inl refl)) in
          let ranks : Ranked (Before (bytes key_bytes)) (z ∷ B) = subst (λ (l : List (Numbered K V)). Ranked (Before (bytes key_bytes)) l) a (Ranked-right (Before (bytes key_bytes)) p.before ((i, p.pair) ∷ p.after) (ranked_here i q is)).1 in
          record {
            key = bytes key_bytes z;
            is = key_of_member key_bytes pairs z distinct b.1;
            after = b.0;
            first = λ j k e h. (let r = is_late j k e h in elim (subst (λ (l : List (Numbered K V)). Member r.0 l) a r.1) as (λ _. (j ≡ z.0) ⊎ (less (bytes key_bytes z) k ≡ true)) [
              | inl s ↦ inl (sym r.2 ∙ ap (λ (w : Numbered K V). w.0) (sym s))
              | inr n ↦ inr (subst (λ (k : Bytes). less (bytes key_bytes z) k ≡ true) r.3 (less-from_PartsBelow _ _ (each_member (Before (bytes key_bytes) z) B r.0 ranks.0 n)))
            ]);
          }

  module _ (q : Bytes) (alone : (j : ℕ) (k : Bytes) → keys_in key_bytes pairs j ≡ Some k → related k q ≡ false) where
    unrelated_member : (y : Numbered K V) → Member y pairs → related (bytes key_bytes y) q ≡ false
    unrelated_member y m = alone y.0 (bytes key_bytes y) (key_of_member key_bytes pairs y distinct m)

    -- a pair that is less than q parts below q
    before_q : (y : Numbered K V) → Member y pairs → less (bytes key_bytes y) q ≡ true → PartsBelow (bytes key_bytes y) q
    before_q y m l = PartsBelow-from (bytes key_bytes y) q l (unrelated_member y m)

    after_q : (y : Numbered K V) → Member y pairs → less (bytes key_bytes y) q ≡ false → PartsBelow q (bytes key_bytes y)
    after_q y m l =
        elim (less_cases (bytes key_bytes y) q (unrelated_member y m)) [
          | inl h ↦ absurd (false≢true (sym l ∙ h))
          | inr h ↦ PartsBelow-from q (bytes key_bytes y) h (unrelated_back (bytes key_bytes y) q (unrelated_member y m))
        ]

    -- a new pair after the leaf before q makes a put
    pub placed_put : (prev : Option ℕ) (x : Numbered K V) → bytes key_bytes x ≡ q → IsLeafBefore (keys_in key_bytes pairs) q prev → IsPut (bytes key_bytes) pairs x (with_pair_after prev x pairs)
    placed_put None x e st =
        put_between (bytes key_bytes) [] pairs x content (λ y m. absurd m)
        (λ y m. subst (λ (k : Bytes). PartsBelow k (bytes key_bytes y)) (sym e) (after_q y m (st y.0 (bytes key_bytes y) (key_of_member key_bytes pairs y distinct m))))
    placed_put (Some i) x e st =
        let p = cut i st.key st.is in
        let A : List (Numbered K V) = p.before ++ (i, p.pair) ∷ [] in
        let whole : pairs ≡ A ++ p.after = p.is ∙ sym (append_assoc p.before ((i, p.pair) ∷ []) p.after) in
        let made : with_pair_after (Some i) x pairs ≡ A ++ x ∷ p.after = p.placed x ∙ sym (append_assoc p.before ((i, p.pair) ∷ []) (x ∷ p.after)) in
        let put : IsPut (bytes key_bytes) (A ++ p.after) x (A ++ x ∷ p.after) = put_between (bytes key_bytes) A p.after x (subst (IsContent (bytes key_bytes)) whole content)
        (λ y m. subst (λ (k : Bytes). PartsBelow (bytes key_bytes y) k) (sym e) (elim (Member-append_cases y p.before ((i, p.pair) ∷ []) m) [
          | inl n ↦ (let h = before_here i st.key st.is y n in before_q y h.1 (less-trans (bytes key_bytes y) st.key q h.0 st.before))
          | inr n ↦ last_one i st y n
        ]))
        (λ y m. subst (λ (k : Bytes). PartsBelow k (bytes key_bytes y)) (sym e) (let h = after_here i st.key st.is y m in after_q y h.1 (not_before i st y h.1 h.0))) in
        subst (λ (l : List (Numbered K V)). IsPut (bytes key_bytes) pairs x l) (sym made) (subst (λ (l : List (Numbered K V)). IsPut (bytes key_bytes) l x (A ++ x ∷ p.after)) (sym whole) put)
      where
        last_one : (i : ℕ) (st : LastBefore (keys_in key_bytes pairs) q i) (y : Numbered K V) → Member y ((i, (cut i st.key st.is).pair) ∷ []) → PartsBelow (bytes key_bytes y) q
        last_one i st y (inl s) =
            subst (λ (y : Numbered K V). PartsBelow (bytes key_bytes y) q) s
            (before_q (i, (cut i st.key st.is).pair) (here i st.key st.is) (subst (λ (k : Bytes). less k q ≡ true) (sym (key_here i st.key st.is)) st.before))
        last_one i st y (inr n) = absurd n

        not_before : (i : ℕ) (st : LastBefore (keys_in key_bytes pairs) q i) (y : Numbered K V) → Member y pairs → less st.key (bytes key_bytes y) ≡ true → less (bytes key_bytes y) q ≡ false
        not_before i st y m l = false_from_ne_true (less (bytes key_bytes y) q) (λ h.
            elim (st.last y.0 (bytes key_bytes y) (key_of_member key_bytes pairs y distinct m) h) [
              | inl s ↦ (let z : bytes key_bytes y ≡ st.key = key_of_number i st.key st.is y m s in one_less st.key (bytes key_bytes y) l (subst (λ (k : Bytes). less (bytes key_bytes y) k ≡ true) z (subst (λ (k : Bytes). less k (bytes key_bytes y) ≡ true) (sym z) l)))
              | inr k ↦ one_less st.key (bytes key_bytes y) l k
            ])

    -- the leaf before q is the leaf before the first that is greater
    leaf_before_first_after : (i : ℕ) → FirstAfter (keys_in key_bytes pairs) q i → IsLeafBefore (keys_in key_bytes pairs) q (number_before pairs i)
    leaf_before_first_after i st =
        leaf_before_first_from q i (record {
          key = st.key;
          is = st.is;
          from = false_from_ne_true (less st.key q) (λ h. one_less st.key q h st.after);
          first = λ j k e h. elim (less_cases k q (alone j k e)) [ inl l ↦ absurd (false≢true (sym h ∙ l)) | inr l ↦ st.first j k e l ];
        })

    -- the leaf before q, from a leaf beside q
    pub before_beside : (beside : Neighbour) → IsBeside (keys_in key_bytes pairs) q beside → IsLeafBefore (keys_in key_bytes pairs) q (number_before_gap pairs beside)
    before_beside (AfterLeaf i) st = st
    before_beside (BeforeLeaf i) st = leaf_before_first_after i st
