-- Lists of pairs, each under the id of its leaf, and without the ids.
use Rattle.std.proofs.Common.{◌≡◌, ◌≢◌, ℕ, ◌≤◌, arith, List, [], ◌∷◌, ◌++◌, refl, sym, ap, ◌∙◌, Option, Some, None, option_map, eq-eqb, ne_eqb}
use Rattle.std.proofs.lemmas.List.{map-append}
use Rattle.blart_keys.specs.Content.{IsContent}
use Rattle.blart_keys.specs.Steps.{bytes as pair_bytes}
use Rattle.blart_keys.proofs.Mapped.{content_from_map}
use Rattle.blart_keys.proofs.Options.{some_of}
use Rattle.art_rows.specs.RowRoom.{row_end_room}
use Rattle.art_tree.specs.Leaves.{Numbered, leaf_in, AreDistinct, Lacks, last_number, with_value, with_pair_after, bytes}
use Rattle.art_tree.specs.PairList.{IsLastKey, ReplacesLast}
use Rattle.art_tree.specs.Pairs.{pairs_of}
use Rattle.art_rows.proofs.CallerLemmas.{Has-last, has_not_lacks, no_last}
use Rattle.art_tree.proofs.NumberedPairs.Numbers.{with_value-split}

module _ {K V : Type 0} where
  -- ---- the pair of the last number

  -- the pairs before it
  record Ends (ps : List (Numbered K V)) (id : ℕ) (x : K × V) : Type 0 where
    before : List (Numbered K V)
    is : ps ≡ before ++ (id, x) ∷ []
    lacks : Lacks before id

  ends : (ps : List (Numbered K V)) (id : ℕ) (x : K × V) → AreDistinct ps → last_number ps ≡ Some id → leaf_in ps id ≡ Some x → Ends ps id x
  ends [] id x d e l = absurd cc
  ends (p ∷ []) id x d e l =
      let f : p.0 ≡ id = cc in
      let t : Some p.1 ≡ Some x = rw (eq-eqb p.0 id f) at l in
      let h : p.1 ≡ x = cc in
      record { before = []; is = λ i. (f i, h i) ∷ []; lacks = tt }
  ends (p ∷ q ∷ ps) id x d e l =
      let off : p.0 ≢ id = (λ f. has_not_lacks (q ∷ ps) p.0 (Has-last (q ∷ ps) p.0 (e ∙ ap Some (sym f))) d.0) in
      let r = ends (q ∷ ps) id x d.1 e (rw (ne_eqb p.0 id off) at l) in
      record { before = p ∷ r.before; is = ap (λ s. p ∷ s) r.is; lacks = (off, r.lacks) }

  -- the pairs without their numbers, split before the last
  cut_last : (before : List (Numbered K V)) (id : ℕ) (x : K × V) → pairs_of (before ++ (id, x) ∷ []) ≡ pairs_of before ++ x ∷ []
  cut_last before id x = map-append (λ (p : Numbered K V). p.1) before ((id, x) ∷ [])

  -- its key is the last key
  pub last_key : (ps : List (Numbered K V)) (id : ℕ) (x : K × V) → AreDistinct ps → last_number ps ≡ Some id → leaf_in ps id ≡ Some x → IsLastKey (pairs_of ps) (Some x.0)
  last_key ps id x d e l =
      let cut = ends ps id x d e l in
      (pairs_of cut.before, x.1, ap pairs_of cut.is ∙ cut_last cut.before id x)

  -- the last pair gets a new value
  pub replaced_last : (ps : List (Numbered K V)) (id : ℕ) (old new : V) → AreDistinct ps → last_number ps ≡ Some id → option_map (λ (x : K × V). x.1) (leaf_in ps id) ≡ Some old → ReplacesLast (pairs_of ps) old new (pairs_of (with_value ps id new))
  replaced_last ps id old new d e o =
      let leaf = some_of (leaf_in ps id) (Has-last ps id e) in
      let key = leaf.0.0 in
      let same : Some leaf.0.1 ≡ Some old = sym (ap (option_map (λ (x : K × V). x.1)) leaf.1) ∙ o in
      let value : leaf.0.1 ≡ old = cc in
      let cut = ends ps id leaf.0 d e leaf.1 in
      let front = pairs_of cut.before in
      let is = ap (λ l. with_value l id new) cut.is ∙ with_value-split id leaf.0 [] new cut.before cut.lacks in (
        front,
        key,
        ap pairs_of cut.is ∙ cut_last cut.before id leaf.0 ∙ ap (λ v. front ++ (key, v) ∷ []) value,
        ap pairs_of is ∙ cut_last cut.before id (key, new),
      )

  -- ---- a pair after all others

  -- a pair after the last number is at the end
  after_last : (id : ℕ) (x : K × V) (y : Numbered K V) (before : List (Numbered K V)) → Lacks before id → with_pair_after (Some id) y (before ++ (id, x) ∷ []) ≡ (before ++ (id, x) ∷ []) ++ y ∷ []
  after_last id x y [] l = rw (eq-eqb id id refl) refl
  after_last id x y (p ∷ before) l = rw (ne_eqb p.0 id l.0) (ap (λ s. p ∷ s) (after_last id x y before l.1))

  -- also if there are no pairs
  at_end : (ps : List (Numbered K V)) (y : Numbered K V) → AreDistinct ps → with_pair_after (last_number ps) y ps ≡ ps ++ y ∷ []
  at_end ps y d = from (last_number ps) refl
    where
      from : (o : Option ℕ) → last_number ps ≡ o → with_pair_after o y ps ≡ ps ++ y ∷ []
      from None e = let none = no_last ps e in ap (λ l. y ∷ l) none ∙ ap (λ l. l ++ y ∷ []) (sym none)
      from (Some id) e =
          let leaf = some_of (leaf_in ps id) (Has-last ps id e) in
          let cut = ends ps id leaf.0 d e leaf.1 in
          ap (with_pair_after (Some id) y) cut.is ∙ after_last id leaf.0 y cut.before cut.lacks ∙ ap (λ l. l ++ y ∷ []) (sym cut.is)

  -- also among the pairs without their numbers
  pub pushed : (ps ns : List (Numbered K V)) (n : ℕ) (x : K × V) → AreDistinct ps → ns ≡ with_pair_after (last_number ps) (n, x) ps → pairs_of ns ≡ pairs_of ps ++ x ∷ []
  pushed ps ns n x d e = ap pairs_of (e ∙ at_end ps (n, x) d) ∙ cut_last ps n x

-- ---- the content

module _ {K V : Type 0} (kb : K → List ℕ) where
  -- numbered pairs are a content if their pairs are
  pub numbered_content : (ps : List (Numbered K V)) → IsContent (pair_bytes kb) (pairs_of ps) → IsContent (bytes kb) ps
  numbered_content ps c = content_from_map (λ (p : Numbered K V). p.1) (pair_bytes kb) ps c

-- ---- the room

-- the last row has room for no more than a row
pub row_end_room-le : (lens : List ℕ) → row_end_room lens ≤ 64
row_end_room-le [] = omega arith
row_end_room-le (n ∷ []) = omega arith
row_end_room-le (n ∷ m ∷ ns) = row_end_room-le (m ∷ ns)
