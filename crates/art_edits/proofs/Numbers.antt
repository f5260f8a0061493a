-- What holds of a list of numbered pairs and the list of its pairs.
use Rattle.std.proofs.Common.{bytes_eq, ◌≡◌, ℕ, suc, ◌+◌, ◌-◌, arith, slice_get, length-append, Bool, true, false, cond, filter, List, [], ◌∷◌, ◌++◌, length, refl, sym, ap, ◌∙◌, subst, Option, Some, None, option_map, find, inl, inr}
use Rattle.std.proofs.lemmas.Bool.{cases_Bool}
use Rattle.std.proofs.lemmas.List.{map-append}
use Rattle.blart_keys.specs.Content.{IsContent, at, without}
use Rattle.blart_keys.specs.Steps.{bytes as pair_bytes}
use Rattle.blart_keys.proofs.RankLemmas.{find_found}
use Rattle.blart_keys.proofs.ContentLemmas.{at_Some}
use Rattle.blart_keys.proofs.PutLemmas.{without_cut}
use Rattle.art_tree.specs.Leaves.{Numbered, leaf_in, Has, AreDistinct, Lacks, with_pair, without_number, bytes}
use Rattle.art_tree.proofs.CallerLemmas.{with_pair-split, leaf_in-member}
use Rattle.blart_keys.proofs.Options.{is_some as has_value, mapped_some, mapped_none}
-- a pair under its number, and the last one
use Rattle.blart_keys.proofs.Mapped.{find-map, content_map}
use Rattle.art_tree.specs.Pairs.{pairs_of}
pub use Rattle.art_tree.proofs.PairEnds.{Cut, cut_at, cut_pairs, left_pairs, last_pair}

module _ {K V : Type 0} where
  -- the pairs of a map are a content, like the pairs of its tree
  pub whole_pairs : (kb : K → List ℕ) (ps : List (Numbered K V)) (S : List (K × V)) → pairs_of ps ≡ S → IsContent (bytes kb) ps → IsContent (pair_bytes kb) S
  whole_pairs kb ps S view content = subst (IsContent (pair_bytes kb)) view (content_map (λ p. p.1) (pair_bytes kb) ps content)

  -- if there are no pairs, there are no numbered pairs
  pub no_pairs : (ps : List (Numbered K V)) → pairs_of ps ≡ [] → ps ≡ []
  no_pairs [] e = refl
  no_pairs (p ∷ ps) e = absurd cc

  -- a number that no pair has is the number of no pair that passes a test
  pub lacks_filter : (t : Numbered K V → Bool) (ps : List (Numbered K V)) (i : ℕ) → Lacks ps i → Lacks (filter t ps) i
  lacks_filter t [] i l = l
  lacks_filter t (p ∷ ps) i l = elim (t p) as (λ b. Lacks (cond b (p ∷ filter t ps) (filter t ps)) i) [ true ↦ (l.0, lacks_filter t ps i l.1) | false ↦ lacks_filter t ps i l.1 ]

  -- ---- a pair under its number

  module _ (ps : List (Numbered K V)) (id : ℕ) (x : K × V) (c : Cut ps id x) where
    -- the pairs with another pair under the number
    pub exchanged_pairs : (y : K × V) → pairs_of (with_pair ps id y) ≡ pairs_of c.before ++ y ∷ pairs_of c.after
    exchanged_pairs y =
        ap (λ l. pairs_of (with_pair l id y)) c.is ∙ ap pairs_of (with_pair-split id x c.after y c.before c.lacks) ∙ map-append (λ (p : Numbered K V). p.1) c.before ((id, y) ∷ c.after)

  -- ---- what a test finds

  -- what is found among the numbered pairs is found among the pairs, without its number
  pub found_pairs : (test : K × V → Bool) (ps : List (Numbered K V)) (o : Option (Numbered K V)) → o ≡ find (λ (p : Numbered K V). test p.1) ps → option_map (λ (p : Numbered K V). p.1) o ≡ find test (pairs_of ps)
  found_pairs test ps o e = ap (option_map (λ (p : Numbered K V). p.1)) e ∙ sym (find-map (λ (p : Numbered K V). p.1) test ps)

  module _ (ps : List (Numbered K V)) (distinct : AreDistinct ps) (test : K × V → Bool) where
    -- the number found has the pair found
    pub found : (id : ℕ) → Some id ≡ option_map (λ (p : Numbered K V). p.0) (find (λ (p : Numbered K V). test p.1) ps) → (x : K × V) × (find (λ (p : Numbered K V). test p.1) ps ≡ Some (id, x)) × (leaf_in ps id ≡ Some x)
    found id e =
        let r = mapped_some (λ (p : Numbered K V). p.0) (find (λ (p : Numbered K V). test p.1) ps) id (sym e) in
        let s : find (λ (p : Numbered K V). test p.1) ps ≡ Some (id, r.0.1) = r.1 ∙ ap (λ n. Some (n, r.0.1)) r.2 in
        (r.0.1, s, leaf_in-member ps id r.0.1 distinct (find_found (λ (p : Numbered K V). test p.1) ps (id, r.0.1) s).0)

    -- the list has the number found
    pub found_has : (id : ℕ) → Some id ≡ option_map (λ (p : Numbered K V). p.0) (find (λ (p : Numbered K V). test p.1) ps) → Has ps id
    found_has id e = let r = found id e in has_value (leaf_in ps id) r.0 r.2

    -- the pair of the number found is found among the pairs
    pub found_pair : (id : ℕ) (x : K × V) → Some id ≡ option_map (λ (p : Numbered K V). p.0) (find (λ (p : Numbered K V). test p.1) ps) → leaf_in ps id ≡ Some x → Some x ≡ find test (pairs_of ps)
    found_pair id x e l =
        let r = found id e in
        let s : Some r.0 ≡ Some x = sym r.2 ∙ l in
        sym s ∙ sym (find-map (λ (p : Numbered K V). p.1) test ps ∙ ap (option_map (λ (p : Numbered K V). p.1)) r.1)

    -- the value of the number found is the value of the pair found
    pub found_value : (id : ℕ) → Some id ≡ option_map (λ (p : Numbered K V). p.0) (find (λ (p : Numbered K V). test p.1) ps) → option_map (λ (x : K × V). x.1) (leaf_in ps id) ≡ option_map (λ (x : K × V). x.1) (find test (pairs_of ps))
    found_value id e = let r = found id e in ap (option_map (λ (x : K × V). x.1)) (r.2 ∙ found_pair id r.0 e r.2)

    -- if no number is found, no pair is found
    pub found_none : None ≡ option_map (λ (p : Numbered K V). p.0) (find (λ (p : Numbered K V). test p.1) ps) → None ≡ find test (pairs_of ps)
    found_none e = sym (find-map (λ (p : Numbered K V). p.1) test ps ∙ ap (option_map (λ (p : Numbered K V). p.1)) (mapped_none (λ (p : Numbered K V). p.0) (find (λ (p : Numbered K V). test p.1) ps) (sym e)))

-- the item at the last index is the last item
pub slice_get-last : {X : Type 0} (xs : List X) (x : X) → slice_get (xs ++ x ∷ []) (length (xs ++ x ∷ []) - 1) ≡ Some x
slice_get-last [] x = refl
slice_get-last (y ∷ xs) x =
    let l : length (xs ++ x ∷ []) ≡ length xs + 1 = length-append xs (x ∷ []) in
    let n : suc (length (xs ++ x ∷ []) - 1) ≡ length (y ∷ xs ++ x ∷ []) - 1 = omega arith in
    ap (λ k. slice_get (y ∷ xs ++ x ∷ []) k) (sym n) ∙ slice_get-last xs x

-- the pairs with other bytes are the same with and without numbers
pub without_pairs : {K V : Type 0} (key_bytes : K → List ℕ) (q : List ℕ) (ps : List (Numbered K V)) → pairs_of (without (bytes key_bytes) ps q) ≡ without (pair_bytes key_bytes) (pairs_of ps) q
without_pairs key_bytes q [] = refl
without_pairs key_bytes q (p ∷ ps) =
    elim (cases_Bool (bytes_eq (key_bytes p.1.0) q)) [
      | inl t ↦ rw t (without_pairs key_bytes q ps)
      | inr f ↦ rw f (ap (λ l. p.1 ∷ l) (without_pairs key_bytes q ps))
    ]

module _ {K V : Type 0} (key_bytes : K → List ℕ) (ps : List (Numbered K V)) (q : List ℕ) where
  -- the pairs are a content
  pub pairs_content : IsContent (bytes key_bytes) ps → IsContent (pair_bytes key_bytes) (pairs_of ps)
  pairs_content c = content_map (λ p. p.1) (pair_bytes key_bytes) ps c

  -- without the pair found, the pairs are the pairs with other bytes
  pub removed_pairs : IsContent (bytes key_bytes) ps → (id : ℕ) (x : K × V) → Some x ≡ at (pair_bytes key_bytes) (pairs_of ps) q → leaf_in ps id ≡ Some x → pairs_of (without_number ps id) ≡ without (pair_bytes key_bytes) (pairs_of ps) q
  removed_pairs content id x e l =
      let c = cut_at ps id x l in
      let cut = cut_pairs ps id x c in
      let own = (at_Some (pair_bytes key_bytes) (pairs_of ps) q x (sym e)).1 in
      left_pairs ps id x c ∙ sym (ap (λ S. without (pair_bytes key_bytes) S q) cut ∙ without_cut (pair_bytes key_bytes) (pairs_of c.before) (pairs_of c.after) x q (subst (IsContent (pair_bytes key_bytes)) cut (pairs_content content)) own)
