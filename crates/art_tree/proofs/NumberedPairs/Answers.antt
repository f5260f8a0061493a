-- Facts about the keys as facts about the pairs.
use Rattle.std.proofs.Common.{◌≡◌, ◌≢◌, ℕ, Bool, true, List, filter, ap, sym, Some, None, ◌∙◌, ◌⊎◌, inl, inr}
use Rattle.std.proofs.lemmas.Bool.{false_from_ne_true}
use Rattle.blart_keys.specs.Bytes.{begins, related, less}
use Rattle.blart_keys.specs.Content.{IsContent, at, front_of, conflict, subtree, under}
use Rattle.blart_keys.proofs.RankLemmas.{Member, find_none}
use Rattle.blart_keys.proofs.ContentLemmas.{Ranked-from_content, at_member, at_absent, conflict_member}
use Rattle.art_tree.specs.Begins.{Bytes, Begins}
use Rattle.art_tree.specs.Leaves.{Numbered, AreDistinct, bytes, keys_in, leaf_in, first_number, last_number}
use Rattle.art_tree.proofs.BeginsLemmas.{Begins-from_begins, begins-from_Begins}
use Rattle.art_tree.proofs.NumberedPairs.Passing.{first_passing, last_passing}
use Rattle.art_tree.proofs.NumberedPairs.Keys.{key_of_member, pair_of_key}
use Rattle.art_tree.proofs.NumberedPairs.Numbers.{Member-from_leaf_in, leaf_in-member}

module _ {K V : Type 0} (key_bytes : K → Bytes) (pairs : List (Numbered K V)) (content : IsContent (bytes key_bytes) pairs) (distinct : AreDistinct pairs) where
  -- the pair of a key
  module _ (i : ℕ) (k : Bytes) (is : keys_in key_bytes pairs i ≡ Some k) where
    pub pair : K × V
    pair = (pair_of_key key_bytes pairs i k is).0

    pub pair_is : leaf_in pairs i ≡ Some pair
    unfolding pair
    pair_is = (pair_of_key key_bytes pairs i k is).1

    pub pair_key : bytes key_bytes (i, pair) ≡ k
    unfolding pair
    pair_key = (pair_of_key key_bytes pairs i k is).2

    pub pair_there : Member (i, pair) pairs
    pair_there = Member-from_leaf_in pairs i pair pair_is

  -- a pair of the list with the number of a key is the key's pair
  same_pair : (i : ℕ) (k : Bytes) (is : keys_in key_bytes pairs i ≡ Some k) (y : Numbered K V) → Member y pairs → y.0 ≡ i → y ≡ (i, pair i k is)
  same_pair i k is y m e =
      let a : leaf_in pairs i ≡ Some y.1 = ap (leaf_in pairs) (sym e) ∙ leaf_in-member pairs y.0 y.1 distinct m in
      let b : leaf_in pairs i ≡ Some (pair i k is) = pair_is i k is in
      let c : y.1 ≡ pair i k is = cc in
      λ j. (e j, c j)

  -- ---- look-ups

  -- the key q is found under its number
  pub at_key : (q : Bytes) (i : ℕ) (is : keys_in key_bytes pairs i ≡ Some q) → at (bytes key_bytes) pairs q ≡ Some (i, pair i q is)
  at_key q i is = at_member (bytes key_bytes) pairs content q (i, pair i q is) (pair_there i q is) (pair_key i q is)

  -- if no key is q, a look-up of q returns none
  pub at_no_key : (q : Bytes) → ((j : ℕ) → keys_in key_bytes pairs j ≡ Some q → ⊥) → at (bytes key_bytes) pairs q ≡ None
  at_no_key q h = at_absent (bytes key_bytes) pairs q (λ y m e. h y.0 (key_of_member key_bytes pairs y distinct m ∙ ap Some e))

  -- if no key is a prefix of q, no pair's is
  pub front_of_no_key : (q : Bytes) → ((j : ℕ) (k : Bytes) → keys_in key_bytes pairs j ≡ Some k → Begins k q → ⊥) → front_of (bytes key_bytes) pairs q ≡ None
  front_of_no_key q h = find_none (λ x. begins (bytes key_bytes x) q) pairs (λ y m. false_from_ne_true (begins (bytes key_bytes y) q) (λ t. h y.0 (bytes key_bytes y) (key_of_member key_bytes pairs y distinct m) (Begins-from_begins (bytes key_bytes y) q t)))

  -- ---- conflicts

  -- a related key other than q is a conflict
  pub conflict_key : (q : Bytes) (i : ℕ) (k : Bytes) → keys_in key_bytes pairs i ≡ Some k → related k q ≡ true → k ≢ q → conflict (bytes key_bytes) pairs q ≡ true
  conflict_key q i k is r off = conflict_member (bytes key_bytes) pairs q (i, pair i k is) (pair_there i k is) (rw (pair_key i k is) r) (λ e. off (sym (pair_key i k is) ∙ e))

  -- ---- first and last

  module _ (test : Bytes → Bool) (i : ℕ) (m : Bytes) (is : keys_in key_bytes pairs i ≡ Some m) (t : test m ≡ true) where
    passes : test (bytes key_bytes (i, pair i m is)) ≡ true
    passes = ap test (pair_key i m is) ∙ t

    -- the least key that passes a test is the key of the first pair that does
    pub first_of_test : ((j : ℕ) (k : Bytes) → keys_in key_bytes pairs j ≡ Some k → test k ≡ true → (j ≡ i) ⊎ (less m k ≡ true)) → first_number (filter (λ x. test (bytes key_bytes x)) pairs) ≡ Some i
    first_of_test least =
        first_passing key_bytes (λ x. test (bytes key_bytes x)) pairs (i, pair i m is) (Ranked-from_content (bytes key_bytes) pairs content) (pair_there i m is) passes
        (λ y n u. elim (least y.0 (bytes key_bytes y) (key_of_member key_bytes pairs y distinct n) u) [
          | inl e ↦ inl (same_pair i m is y n e)
          | inr l ↦ inr (rw (pair_key i m is) l)
        ])

    -- the greatest key that passes a test is the key of the last pair that does
    pub last_of_test : ((j : ℕ) (k : Bytes) → keys_in key_bytes pairs j ≡ Some k → test k ≡ true → (j ≡ i) ⊎ (less k m ≡ true)) → last_number (filter (λ x. test (bytes key_bytes x)) pairs) ≡ Some i
    last_of_test greatest =
        last_passing key_bytes (λ x. test (bytes key_bytes x)) pairs (i, pair i m is) (Ranked-from_content (bytes key_bytes) pairs content) (pair_there i m is) passes
        (λ y n u. elim (greatest y.0 (bytes key_bytes y) (key_of_member key_bytes pairs y distinct n) u) [
          | inl e ↦ inl (same_pair i m is y n e)
          | inr l ↦ inr (rw (pair_key i m is) l)
        ])

  -- the first of the pairs that begin with g
  pub first_under : (g : Bytes) (i : ℕ) (m : Bytes) → keys_in key_bytes pairs i ≡ Some m → Begins g m → ((j : ℕ) (k : Bytes) → keys_in key_bytes pairs j ≡ Some k → Begins g k → (j ≡ i) ⊎ (less m k ≡ true)) → first_number (under (bytes key_bytes) pairs g) ≡ Some i
  first_under g i m is b least = first_of_test (begins g) i m is (begins-from_Begins g m b) (λ j k e t. least j k e (Begins-from_begins g k t))

  -- the last of the pairs that begin with g
  pub last_under : (g : Bytes) (i : ℕ) (m : Bytes) → keys_in key_bytes pairs i ≡ Some m → Begins g m → ((j : ℕ) (k : Bytes) → keys_in key_bytes pairs j ≡ Some k → Begins g k → (j ≡ i) ⊎ (less k m ≡ true)) → last_number (under (bytes key_bytes) pairs g) ≡ Some i
  last_under g i m is b greatest = last_of_test (begins g) i m is (begins-from_Begins g m b) (λ j k e t. greatest j k e (Begins-from_begins g k t))

  -- the first of the pairs that are related to q
  pub first_related : (q : Bytes) (i : ℕ) (m : Bytes) → keys_in key_bytes pairs i ≡ Some m → related m q ≡ true → ((j : ℕ) (k : Bytes) → keys_in key_bytes pairs j ≡ Some k → related k q ≡ true → (j ≡ i) ⊎ (less m k ≡ true)) → first_number (subtree (bytes key_bytes) pairs q) ≡ Some i
  first_related q i m is r least = first_of_test (λ k. related k q) i m is r least

  -- the last of the pairs that are related to q
  pub last_related : (q : Bytes) (i : ℕ) (m : Bytes) → keys_in key_bytes pairs i ≡ Some m → related m q ≡ true → ((j : ℕ) (k : Bytes) → keys_in key_bytes pairs j ≡ Some k → related k q ≡ true → (j ≡ i) ⊎ (less k m ≡ true)) → last_number (subtree (bytes key_bytes) pairs q) ≡ Some i
  last_related q i m is r greatest = last_of_test (λ k. related k q) i m is r greatest
