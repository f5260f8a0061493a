-- The result of a look-up by bytes.
use Rattle.std.proofs.Common.{◌≡◌, ℕ, List, [], ◌∷◌, option_map, Some, None, true, false, refl, eqb, eq-eqb, subst, sym, ap, not, bytes_eq, ◌∙◌}
use Rattle.std.proofs.lemmas.Bool.{not_from_false}
use Rattle.std.specs.Cmp.Lexicographic.{pointwise}
use Rattle.blart_keys.specs.Content.{IsContent, at, front_of, without}
use Rattle.blart_keys.proofs.ContentLemmas.{at_Some, at_member, front_of_member}
use Rattle.blart_keys.proofs.PutLemmas.{without_cut}
use Rattle.blart_keys.proofs.RankLemmas.{filter_all, find_missing}
use Rattle.art_tree.specs.Begins.{Bytes, Begins}
use Rattle.art_tree.specs.Calls.Descents.{NoFront, IsOnlyFront, IsFrontAlone}
use Rattle.art_tree.specs.Leaves.{Numbered, AreDistinct, Has, leaf_in, without_number, keys_in, bytes}
use Rattle.art_tree.proofs.BeginsLemmas.{begins-from_Begins}
use Rattle.blart_keys.proofs.Options.{is_some, mapped_some, mapped_none}
use Rattle.art_tree.proofs.NumberedPairs.Answers.{at_no_key, front_of_no_key}
use Rattle.art_tree.proofs.NumberedPairs.Keys.{key_of_pair, pair_of_key}
use Rattle.art_rows.proofs.CallerLemmas.{split, leaf_in-split, without_number-split}
use Rattle.art_tree.proofs.NumberedPairs.Numbers.{Member-from_leaf_in, leaf_in-member}
use Rattle.art_tree.proofs.Ways.ToQuery.{absent, only_absent, only_not}

module _ {K V : Type 0} (key_bytes : K → Bytes) (S : List (Numbered K V)) where
  -- the only leaf whose key may be a prefix of q is there
  pub only_has : (q : Bytes) (i : ℕ) → IsOnlyFront (keys_in key_bytes S) q i → Has S i
  only_has q i o = let p = pair_of_key key_bytes S i o.key o.is in is_some _ p.0 p.1

  module _ (content : IsContent (bytes key_bytes) S) (distinct : AreDistinct S) (q : Bytes) where
    -- if no key is a prefix of q, no pair is found
    pub none_at : NoFront (keys_in key_bytes S) q → None ≡ at (bytes key_bytes) S q
    none_at never = sym (at_no_key key_bytes S content distinct q (absent (keys_in key_bytes S) q never))

    pub none_front : NoFront (keys_in key_bytes S) q → None ≡ front_of (bytes key_bytes) S q
    none_front never = sym (front_of_no_key key_bytes S content distinct q never)

    -- the pair that is found is the pair of its number
    pub found_at : (i : ℕ) → Some i ≡ option_map (λ (p : Numbered K V). p.0) (at (bytes key_bytes) S q) → (x : K × V) × (at (bytes key_bytes) S q ≡ Some (i, x)) × (leaf_in S i ≡ Some x)
    found_at i e =
        let r = mapped_some (λ (p : Numbered K V). p.0) (at (bytes key_bytes) S q) i (sym e) in
        let f : at (bytes key_bytes) S q ≡ Some (i, r.0.1) = r.1 ∙ ap (λ n. Some (n, r.0.1)) r.2 in
        (r.0.1, f, leaf_in-member S i r.0.1 distinct (at_Some (bytes key_bytes) S q (i, r.0.1) f).0)

    -- the pairs without that number are the pairs with other bytes than q
    pub without_found : (i : ℕ) (x : K × V) → at (bytes key_bytes) S q ≡ Some (i, x) → leaf_in S i ≡ Some x → without_number S i ≡ without (bytes key_bytes) S q
    without_found i x f l =
        let c = split S i (is_some (leaf_in S i) x l) in
        let own : leaf_in S i ≡ Some c.pair = ap (λ (ps : List (Numbered K V)). leaf_in ps i) c.is ∙ leaf_in-split i c.pair c.after c.before c.lacks in
        let same : c.pair ≡ x = cc in
        let e : bytes key_bytes (i, c.pair) ≡ q = ap (λ (y : K × V). key_bytes y.0) same ∙ (at_Some (bytes key_bytes) S q (i, x) f).1 in
        ap (λ (ps : List (Numbered K V)). without_number ps i) c.is ∙ without_number-split i c.pair c.after c.before c.lacks
        ∙ sym (ap (λ (ps : List (Numbered K V)). without (bytes key_bytes) ps q) c.is ∙ without_cut (bytes key_bytes) c.before c.after (i, c.pair) q (subst (IsContent (bytes key_bytes)) c.is content) e)

    -- if no pair is found, all pairs have other bytes than q
    pub without_none : None ≡ option_map (λ (p : Numbered K V). p.0) (at (bytes key_bytes) S q) → S ≡ without (bytes key_bytes) S q
    without_none e = sym (filter_all (λ x. not (bytes_eq (bytes key_bytes x) q)) S (λ x m. not_from_false (bytes_eq (bytes key_bytes x) q) (find_missing (λ x. bytes_eq (bytes key_bytes x) q) S x (mapped_none (λ (p : Numbered K V). p.0) (at (bytes key_bytes) S q) (sym e)) m)))

    module _ (f : ℕ × (K × V)) (alone : IsFrontAlone key_bytes S q (Some f)) where
      -- if the only pair that may be found has the bytes q, it is found
      pub this_at : key_bytes f.1.0 ≡ q → Some f ≡ at (bytes key_bytes) S q
      this_at e = sym (at_member (bytes key_bytes) S content q f (Member-from_leaf_in S f.0 f.1 alone.1) e)

      pub not_at : (key_bytes f.1.0 ≡ q → ⊥) → None ≡ at (bytes key_bytes) S q
      not_at off = sym (at_no_key key_bytes S content distinct q (only_absent (keys_in key_bytes S) q f.0 alone.0 (λ e. off (let k : keys_in key_bytes S f.0 ≡ Some (key_bytes f.1.0) = key_of_pair key_bytes S f.0 f.1 alone.1 in cc))))

      pub this_front : Begins (key_bytes f.1.0) q → Some f ≡ front_of (bytes key_bytes) S q
      this_front b = sym (front_of_member (bytes key_bytes) S content q f (Member-from_leaf_in S f.0 f.1 alone.1) (begins-from_Begins (key_bytes f.1.0) q b))

      pub not_front : (Begins (key_bytes f.1.0) q → ⊥) → None ≡ front_of (bytes key_bytes) S q
      not_front off = sym (front_of_no_key key_bytes S content distinct q (only_not (keys_in key_bytes S) q f.0 alone.0 (key_bytes f.1.0) (key_of_pair key_bytes S f.0 f.1 alone.1) off))

-- each list of numbers equals itself
pointwise-itself : (xs : List ℕ) → pointwise eqb xs xs ≡ true
pointwise-itself [] = refl
pointwise-itself (x ∷ xs) = rw (eq-eqb x x refl) (pointwise-itself xs)

-- bytes that do not compare equal are different
pub not_text : (b q : Bytes) → Some b ≡ Some q → false ≡ pointwise eqb b q → ⊥
not_text b q e f =
    let h : q ≡ b = cc in
    let k : false ≡ pointwise eqb b b = subst (λ (z : Bytes). false ≡ pointwise eqb b z) h f in
    let t : pointwise eqb b b ≡ true = pointwise-itself b in
    cc
