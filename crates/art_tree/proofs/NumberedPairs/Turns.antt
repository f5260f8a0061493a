-- How a key and the next one differ.
use Rattle.std.proofs.Common.{◌≡◌, ◌≢◌, ℕ, ◌+◌, ◌<◌, List, [], ◌∷◌, ◌++◌, length, take, get_or, refl, ap, arith, sym, subst, Option, Some, None, ◌∙◌, ◌⊎◌, inl, inr, true, false, cond, eqb, eq-eqb, length-append}
use Rattle.std.proofs.lemmas.Bool.{false≢true, ne_eqb}
use Rattle.std.proofs.lemmas.Bool.Decides.{eqb_tells}
use Rattle.std.proofs.lemmas.List.{length-take-le}
use Rattle.blart_keys.specs.Bytes.{common, less, related, PartsBelow}
use Rattle.blart_keys.specs.Content.{IsContent}
use Rattle.blart_keys.proofs.PartLemmas.{PartsBelow-from, less-from_PartsBelow, related-from_PartsBelow, branch_at_common, begins_between, less-irrefl}
use Rattle.blart_keys.proofs.ContentLemmas.{Before, Ranked-from_content, unrelated_back}
use Rattle.blart_keys.proofs.RankLemmas.{Ranked-cases, each_member}
use Rattle.art_tree.specs.Begins.{Bytes, Begins, next_byte}
use Rattle.art_tree.specs.Leaves.{Numbered, AreDistinct, Has, Lacks, bytes, keys_in, number_after, first_number}
use Rattle.art_tree.specs.Gaps.{FirstAfter}
use Rattle.art_tree.specs.Calls.Building.{IsTurn, count_after}
use Rattle.art_tree.proofs.BeginsLemmas.{Begins-take, Begins-length, Begins-next, Begins-from_begins, begins-from_Begins, common-greatest, related-from_front}
use Rattle.art_tree.proofs.NumberedPairs.Keys.{key_of_member, member_of_key, has_key}
use Rattle.art_tree.proofs.NumberedPairs.Neighbours.{IsLeafAfter, leaf_after_key}

module _ {K V : Type 0} (key_bytes : K → Bytes) (pairs : List (Numbered K V)) (content : IsContent (bytes key_bytes) pairs) (distinct : AreDistinct pairs) where
  -- two keys are not related
  pub keys_unrelated : (i j : ℕ) (k l : Bytes) → keys_in key_bytes pairs i ≡ Some k → keys_in key_bytes pairs j ≡ Some l → i ≢ j → related k l ≡ false
  keys_unrelated i j k l k_is l_is ne =
      let x = member_of_key key_bytes pairs i k k_is in
      let y = member_of_key key_bytes pairs j l l_is in
      let named : related (bytes key_bytes x.0) (bytes key_bytes y.0) ≡ false =
      elim (Ranked-cases (Before (bytes key_bytes)) pairs x.0 y.0 (Ranked-from_content (bytes key_bytes) pairs content) x.1 y.1) [
        | inl s ↦ absurd (ne (sym x.2 ∙ ap (λ (z : Numbered K V). z.0) s ∙ y.2))
        | inr (inl b) ↦ related-from_PartsBelow (bytes key_bytes x.0) (bytes key_bytes y.0) b
        | inr (inr b) ↦ unrelated_back (bytes key_bytes y.0) (bytes key_bytes x.0) (related-from_PartsBelow (bytes key_bytes y.0) (bytes key_bytes x.0) b)
      ] in
      subst (λ (z : Bytes). related k z ≡ false) y.3 (subst (λ (z : Bytes). related z (bytes key_bytes y.0) ≡ false) x.3 named)

  -- no key is a prefix of another
  pub none_begins : (i j : ℕ) (k l : Bytes) → keys_in key_bytes pairs i ≡ Some k → keys_in key_bytes pairs j ≡ Some l → i ≢ j → Begins k l → ⊥
  none_begins i j k l k_is l_is ne b = false≢true (sym (keys_unrelated i j k l k_is l_is ne) ∙ related-from_front k l b)

  module _ (i : ℕ) (k : Bytes) (k_is : keys_in key_bytes pairs i ≡ Some k) where
    -- a key that begins with k is k
    own_key : (j : ℕ) (l : Bytes) → keys_in key_bytes pairs j ≡ Some l → Begins k l → j ≡ i
    own_key j l e b = elim (eqb_tells j i) [ inl q ↦ q.1 | inr q ↦ absurd (none_begins i j k l k_is e (λ s. q.1 (sym s)) b) ]

    -- after the last key there is no key
    pub turn_last : number_after pairs i ≡ None → IsTurn (keys_in key_bytes pairs) i k 0
    turn_last none =
        let a : IsLeafAfter (keys_in key_bytes pairs) k None = subst (λ (o : Option ℕ). IsLeafAfter (keys_in key_bytes pairs) k o) none (leaf_after_key key_bytes pairs content distinct i k k_is) in
        record { is = k_is; only = own_key; turns = λ j l e more b. false≢true (sym (a j l e) ∙ more); within = omega arith }

    -- the number after it is a number of the list
    pub after_has : (j : ℕ) → number_after pairs i ≡ Some j → Has pairs j
    after_has j after = (let n : FirstAfter (keys_in key_bytes pairs) k j = subst (λ (o : Option ℕ). IsLeafAfter (keys_in key_bytes pairs) k o) after (leaf_after_key key_bytes pairs content distinct i k k_is) in has_key key_bytes pairs j n.key n.is)

    module _ (j : ℕ) (q : Bytes) (after : number_after pairs i ≡ Some j) (q_is : keys_in key_bytes pairs j ≡ Some q) where
      next : FirstAfter (keys_in key_bytes pairs) k j
      next = subst (λ (o : Option ℕ). IsLeafAfter (keys_in key_bytes pairs) k o) after (leaf_after_key key_bytes pairs content distinct i k k_is)

      same : next.key ≡ q
      same = let a : keys_in key_bytes pairs j ≡ Some next.key = next.is in let b : keys_in key_bytes pairs j ≡ Some q = q_is in cc

      up : less k q ≡ true
      up = subst (λ (z : Bytes). less k z ≡ true) same next.after

      other : i ≢ j
      other e =
          let a : keys_in key_bytes pairs i ≡ Some q = subst (λ (z : ℕ). keys_in key_bytes pairs z ≡ Some q) (sym e) q_is in
          let b : keys_in key_bytes pairs i ≡ Some k = k_is in
          let c : q ≡ k = cc in
          false≢true (sym (less-irrefl k) ∙ subst (λ (z : Bytes). less k z ≡ true) c up)

      -- each greater key is the next one, or greater than that
      pub later : (m : ℕ) (l : Bytes) → keys_in key_bytes pairs m ≡ Some l → less k l ≡ true → (m ≡ j) ⊎ (less q l ≡ true)
      later m l e more = elim (next.first m l e more) [ inl s ↦ inl s | inr s ↦ inr (subst (λ (z : Bytes). less z l ≡ true) same s) ]

      parted : PartsBelow k q
      parted = PartsBelow-from k q up (keys_unrelated i j k q k_is q_is other)

      low_edge : Begins (common k q ++ (branch_at_common k q parted).low ∷ []) k
      low_edge = Begins-from_begins (common k q ++ (branch_at_common k q parted).low ∷ []) k (branch_at_common k q parted).first

      high_edge : Begins (common k q ++ (branch_at_common k q parted).high ∷ []) q
      high_edge = Begins-from_begins (common k q ++ (branch_at_common k q parted).high ∷ []) q (branch_at_common k q parted).second

      module _ (c : ℕ) (c_is : c ≡ length (common k q)) where
        -- both keys are longer than the common prefix
        pub in_key : c < length k
        in_key = omega (arith, Begins-length (common k q ++ (branch_at_common k q parted).low ∷ []) k low_edge, length-append (common k q) ((branch_at_common k q parted).low ∷ []))

        pub in_next : c < length q
        in_next = omega (arith, Begins-length (common k q ++ (branch_at_common k q parted).high ∷ []) q high_edge, length-append (common k q) ((branch_at_common k q parted).high ∷ []))

        -- the next key has the greater byte there
        pub rises : get_or k c 0 < get_or q c 0
        rises =
            let a : next_byte (common k q) k ≡ (branch_at_common k q parted).low = Begins-next (common k q) k (branch_at_common k q parted).low low_edge in
            let b : next_byte (common k q) q ≡ (branch_at_common k q parted).high = Begins-next (common k q) q (branch_at_common k q parted).high high_edge in
            let d : get_or k c 0 ≡ (branch_at_common k q parted).low = ap (λ (z : ℕ). get_or k z 0) c_is ∙ a in
            let e : get_or q c 0 ≡ (branch_at_common k q parted).high = ap (λ (z : ℕ). get_or q z 0) c_is ∙ b in
            let lt : (branch_at_common k q parted).low < (branch_at_common k q parted).high = (branch_at_common k q parted).below in
            omega arith

        -- no longer prefix of the key is a prefix of the next key
        too_long : Begins (take (c + 1) k) q → ⊥
        too_long b =
            let g = Begins-length (take (c + 1) k) (common k q) (common-greatest (take (c + 1) k) k q (Begins-take (c + 1) k) b) in
            let l : length (take (c + 1) k) ≡ c + 1 = length-take-le (c + 1) k (let w = in_key in omega arith) in
            omega arith

        -- no greater key begins with the bytes that both keys share and the next byte of k
        pub turn_next : IsTurn (keys_in key_bytes pairs) i k (c + 1)
        turn_next = record {
          is = k_is;
          only = own_key;
          turns = λ m l e more b. elim (later m l e more) [
            | inl s ↦
                let x : keys_in key_bytes pairs j ≡ Some l = subst (λ (z : ℕ). keys_in key_bytes pairs z ≡ Some l) s e in
                let y : keys_in key_bytes pairs j ≡ Some q = q_is in
                let z : l ≡ q = cc in
                too_long (subst (λ (w : Bytes). Begins (take (c + 1) k) w) z b)
            | inr s ↦ too_long (Begins-from_begins (take (c + 1) k) q (begins_between (take (c + 1) k) k q l up s (begins-from_Begins (take (c + 1) k) k (Begins-take (c + 1) k)) (begins-from_Begins (take (c + 1) k) l b)))
          ];
          within = let w = in_key in omega arith;
        }

-- the first number has the least key
pub first_least : {K V : Type 0} → (key_bytes : K → Bytes) (ps : List (Numbered K V)) → IsContent (bytes key_bytes) ps → AreDistinct ps → (i : ℕ) → first_number ps ≡ Some i
    → (k : Bytes) × (keys_in key_bytes ps i ≡ Some k) × ((j : ℕ) (l : Bytes) → keys_in key_bytes ps j ≡ Some l → (j ≡ i) ⊎ (less k l ≡ true))
first_least key_bytes [] content distinct i e = cc
first_least {K} {V} key_bytes (p ∷ ps) content distinct i e =
    let h : Some p.0 ≡ Some i = e in
    let n : p.0 ≡ i = cc in
    let is : keys_in key_bytes (p ∷ ps) p.0 ≡ Some (bytes key_bytes p) = key_of_member key_bytes (p ∷ ps) p distinct (inl refl) in (
      bytes key_bytes p,
      subst (λ (z : ℕ). keys_in key_bytes (p ∷ ps) z ≡ Some (bytes key_bytes p)) n is,
      λ j l l_is. (let x = member_of_key key_bytes (p ∷ ps) j l l_is in elim x.1 [
        | inl s ↦ inl (sym x.2 ∙ sym (ap (λ (z : Numbered K V). z.0) s) ∙ n)
        | inr m ↦ inr (subst (λ (z : Bytes). less (bytes key_bytes p) z ≡ true) x.3 (less-from_PartsBelow (bytes key_bytes p) (bytes key_bytes x.0) (each_member (Before (bytes key_bytes) p) ps x.0 (Ranked-from_content (bytes key_bytes) (p ∷ ps) content).0 m)))
      ]),
    )

-- ---- the number of pairs after a pair

module _ {X : Type 0} where
  -- the first pair has all others after it
  pub counts_first : (ps : List (ℕ × X)) (j : ℕ) → first_number ps ≡ Some j → length ps ≡ count_after ps j + 1
  counts_first [] j e = cc
  counts_first (p ∷ ps) j e = (let h : Some p.0 ≡ Some j = e in let q : p.0 ≡ j = cc in let t : eqb p.0 j ≡ true = eq-eqb p.0 j q in rw t (omega arith))

  first_other : (ps : List (ℕ × X)) (j n : ℕ) → Lacks ps n → first_number ps ≡ Some j → n ≢ j
  first_other [] j n l e = cc
  first_other (p ∷ ps) j n l e = λ s. (let h : Some p.0 ≡ Some j = e in let q : p.0 ≡ j = cc in l.0 (q ∙ sym s))

  after_other : (ps : List (ℕ × X)) (i j n : ℕ) → Lacks ps n → number_after ps i ≡ Some j → n ≢ j
  after_other [] i j n l e = cc
  after_other (p ∷ ps) i j n l e =
      elim (eqb_tells p.0 i) [
        | inl q ↦ first_other ps j n l.1 (subst (λ t. cond t (first_number ps) (number_after ps i) ≡ Some j) q.0 e)
        | inr q ↦ after_other ps i j n l.1 (subst (λ t. cond t (first_number ps) (number_after ps i) ≡ Some j) q.0 e)
      ]

  -- the next pair has one less after it
  pub counts_down : (ps : List (ℕ × X)) (i j : ℕ) → AreDistinct ps → number_after ps i ≡ Some j → count_after ps i ≡ count_after ps j + 1
  counts_down [] i j d e = cc
  counts_down (p ∷ ps) i j d e =
      elim (eqb_tells p.0 i) [
        | inl q ↦
            let f : first_number ps ≡ Some j = subst (λ t. cond t (first_number ps) (number_after ps i) ≡ Some j) q.0 e in
            let off : eqb p.0 j ≡ false = ne_eqb p.0 j (first_other ps j p.0 d.0 f) in
            rw (q.0, off) (counts_first ps j f)
        | inr q ↦
            let f : number_after ps i ≡ Some j = subst (λ t. cond t (first_number ps) (number_after ps i) ≡ Some j) q.0 e in
            let off : eqb p.0 j ≡ false = ne_eqb p.0 j (after_other ps i j p.0 d.0 f) in
            rw (q.0, off) (counts_down ps i j d.1 f)
      ]
