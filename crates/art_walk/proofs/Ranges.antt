-- The pairs within bounds, with a prefix, and related to some bytes are spans of the list.
use Rattle.std.proofs.Common.{◌≡◌, ℕ, Bool, true, false, ◌&&◌, inl, inr, List, [], ◌∷◌, ◌++◌, filter, Some, None, refl, sym, ap, ◌∙◌, subst, append_assoc}
use Rattle.std.proofs.lemmas.Bool.{false≢true, cond-true, and_parts, false_from_ne_true}
use Rattle.std.proofs.lemmas.List.Elements.{filter-append}
use Rattle.std.specs.declared.ops.Bound.{Bound}
use Rattle.std.specs.declared.ops.Bound.TheVariants.{Unbounded}
use Rattle.blart_keys.specs.Bytes.{begins, related}
use Rattle.blart_keys.specs.Bounds.{is_from_start, is_up_to_end}
use Rattle.blart_keys.specs.Content.{IsContent, between, under, subtree}
use Rattle.blart_keys.proofs.PartLemmas.{less-from_PartsBelow}
use Rattle.blart_keys.proofs.RankLemmas.{Member, IsPart, each_member, filter_member, member_filter, filter_none, Ranked, Ranked-filter, Ranked-across, Member-append_cases}
use Rattle.blart_keys.proofs.ContentLemmas.{Before, Ranked-from_content, under_is_part}
use Rattle.blart_keys.proofs.PartsOfContents.{end_down, start_up, between_is_part, between_from, between_up, subtree_is_part}
use Rattle.art_tree.specs.Leaves.{Numbered, leaf_in, first_number, last_number, AreDistinct, bytes}
use Rattle.art_tree.specs.Seeks.{number_within, ends}
use Rattle.art_tree.proofs.CallerLemmas.{leaf_in-member, last_number-append, are_ends, no_first, no_last}
use Rattle.art_walk.specs.Cursor.{span_of, IsSpan}
use Rattle.art_tree.proofs.Spans.{Cut, EndsWith, ends_with, cut_span, cut_is_span}
use Rattle.art_walk.proofs.Steps.{BeginsWith, begins_with, some_inj}

module _ {K V : Type 0} where
  -- pairs that are next to each other in the list are split off at their ends
  pub part_cut : (p : Numbered K V → Bool) (ps : List (Numbered K V)) → IsPart p ps → (first last : ℕ) → first_number (filter p ps) ≡ Some first → last_number (filter p ps) ≡ Some last → Cut ps first last (filter p ps)
  part_cut p ps part first last f l = record {
    before = part.before;
    after = part.after;
    is = part.is ∙ append_assoc part.before (filter p ps) part.after;
    first_is = f;
    last_is = l;
  }

module _ {K V : Type 0} (key_bytes : K → List ℕ) (ps : List (Numbered K V)) (content : IsContent (bytes key_bytes) ps) where
  -- ---- with a prefix, and related to some bytes

  -- the pairs that begin with some bytes
  pub under_cut : (q : List ℕ) (first last : ℕ) → ends (under (bytes key_bytes) ps q) ≡ Some (first, last) → Cut ps first last (under (bytes key_bytes) ps q)
  under_cut q first last e =
      let a = are_ends (under (bytes key_bytes) ps q) first last e in
      part_cut (λ x. begins q (bytes key_bytes x)) ps (under_is_part (bytes key_bytes) ps q content) first last a.0 a.1

  -- the pairs related to some bytes
  pub subtree_cut : (q : List ℕ) (first last : ℕ) → first_number (subtree (bytes key_bytes) ps q) ≡ Some first → last_number (subtree (bytes key_bytes) ps q) ≡ Some last → Cut ps first last (subtree (bytes key_bytes) ps q)
  subtree_cut q first last f l = part_cut (λ x. related (bytes key_bytes x) q) ps (subtree_is_part (bytes key_bytes) ps q content) first last f l

  -- they are the pairs from the first through the last
  pub subtree_span : AreDistinct ps → (q : List ℕ) (first last : ℕ) → first_number (subtree (bytes key_bytes) ps q) ≡ Some first → last_number (subtree (bytes key_bytes) ps q) ≡ Some last
      → IsSpan ps first last × (span_of ps first last ≡ subtree (bytes key_bytes) ps q)
  subtree_span d q first last f l =
      let c = subtree_cut q first last f l in
      (cut_is_span ps d first last (subtree (bytes key_bytes) ps q) c, cut_span ps d first last (subtree (bytes key_bytes) ps q) c)

  -- ---- within bounds

  module _ (lo hi : Bound (List ℕ)) where
    abbrev from : List (Numbered K V)
    from = between (bytes key_bytes) ps lo Unbounded

    abbrev up : List (Numbered K V)
    up = between (bytes key_bytes) ps Unbounded hi

    abbrev within : List (Numbered K V)
    within = between (bytes key_bytes) ps lo hi

    -- if no pair is from the start bound on, none is within
    pub none_from : None ≡ number_within (bytes key_bytes) ps lo true → within ≡ []
    none_from e = sym (between_from (bytes key_bytes) ps lo hi) ∙ ap (filter (λ x. is_up_to_end hi (bytes key_bytes x))) (no_first from (sym e))

    -- if no pair is up to the end bound, none is within
    pub none_up : None ≡ number_within (bytes key_bytes) ps hi false → within ≡ []
    none_up e = sym (between_up (bytes key_bytes) ps lo hi) ∙ ap (filter (λ x. is_from_start lo (bytes key_bytes x))) (no_last up (sym e))

    module _ (distinct : AreDistinct ps) (first : ℕ) (f : Some first ≡ number_within (bytes key_bytes) ps lo true) (x : K × V) (is : leaf_in ps first ≡ Some x) where
      begun : BeginsWith from first
      begun = begins_with from first (sym f)

      in_from : (y : Numbered K V) → Member y from → Member y ps
      in_from y m = (filter_member (λ x. is_from_start lo (bytes key_bytes x) && true) ps y m).0

      -- the pairs from the start bound on begin with the pair of the first number
      from_is : from ≡ (first, x) ∷ begun.rest
      from_is =
          let there : Member (first, begun.pair) ps = in_from (first, begun.pair) (subst (Member (first, begun.pair)) (sym begun.is) (inl refl)) in
          let same : begun.pair ≡ x = some_inj begun.pair x (sym (leaf_in-member ps first begun.pair distinct there) ∙ is) in
          begun.is ∙ ap (λ y. (first, y) ∷ begun.rest) same

      from_ranked : Ranked (Before (bytes key_bytes)) ((first, x) ∷ begun.rest)
      from_ranked = subst (Ranked (Before (bytes key_bytes))) from_is (Ranked-filter (Before (bytes key_bytes)) (λ x. is_from_start lo (bytes key_bytes x) && true) ps (Ranked-from_content (bytes key_bytes) ps content))

      -- if the first of them is past the end bound, none is within
      pub past_end : false ≡ is_up_to_end hi (key_bytes x.0) → within ≡ []
      past_end h =
          sym (between_from (bytes key_bytes) ps lo hi) ∙ ap (filter (λ x. is_up_to_end hi (bytes key_bytes x))) from_is
          ∙ filter_none (λ x. is_up_to_end hi (bytes key_bytes x)) ((first, x) ∷ begun.rest) later
        where
          later : (y : Numbered K V) → Member y ((first, x) ∷ begun.rest) → is_up_to_end hi (bytes key_bytes y) ≡ false
          later y (inl e) = ap (λ (y : Numbered K V). is_up_to_end hi (bytes key_bytes y)) (sym e) ∙ sym h
          later y (inr m) =
              false_from_ne_true _ (λ t. false≢true (h ∙ end_down hi (key_bytes x.0) (bytes key_bytes y) (less-from_PartsBelow _ _ (each_member (Before (bytes key_bytes) (first, x)) begun.rest y from_ranked.0 m)) t))

      module _ (h : true ≡ is_up_to_end hi (key_bytes x.0)) where
        -- the first of them is the first within
        within_first : first_number within ≡ Some first
        within_first =
            ap first_number (sym (between_from (bytes key_bytes) ps lo hi) ∙ ap (filter (λ x. is_up_to_end hi (bytes key_bytes x))) from_is)
            ∙ ap first_number (cond-true (is_up_to_end hi (key_bytes x.0)) _ (filter (λ x. is_up_to_end hi (bytes key_bytes x)) begun.rest) (sym h))

        module _ (last : ℕ) (l : Some last ≡ number_within (bytes key_bytes) ps hi false) where
          ended : EndsWith up last
          ended = ends_with up last (sym l)

          first_in_up : Member (first, x) (ended.front ++ (last, ended.pair) ∷ [])
          first_in_up =
              let there : Member (first, x) from = subst (Member (first, x)) (sym from_is) (inl refl) in
              subst (Member (first, x)) ended.is (member_filter (λ x. is_up_to_end hi (bytes key_bytes x)) ps (first, x) (in_from (first, x) there) (sym h))

          first_from : is_from_start lo (key_bytes x.0) ≡ true
          first_from =
              let there : Member (first, x) from = subst (Member (first, x)) (sym from_is) (inl refl) in
              (and_parts (is_from_start lo (key_bytes x.0)) true (filter_member (λ x. is_from_start lo (bytes key_bytes x) && true) ps (first, x) there).1).0

          up_ranked : Ranked (Before (bytes key_bytes)) (ended.front ++ (last, ended.pair) ∷ [])
          up_ranked = subst (Ranked (Before (bytes key_bytes))) ended.is (Ranked-filter (Before (bytes key_bytes)) (λ x. is_up_to_end hi (bytes key_bytes x)) ps (Ranked-from_content (bytes key_bytes) ps content))

          last_from : is_from_start lo (key_bytes ended.pair.0) ≡ true
          last_from = elim (Member-append_cases (first, x) ended.front ((last, ended.pair) ∷ []) first_in_up) [
            | inl m ↦ start_up lo (key_bytes x.0) (key_bytes ended.pair.0) (less-from_PartsBelow _ _ (Ranked-across (Before (bytes key_bytes)) ended.front ((last, ended.pair) ∷ []) up_ranked (first, x) (last, ended.pair) m (inl refl))) first_from
            | inr (inl e) ↦ ap (λ (y : Numbered K V). is_from_start lo (bytes key_bytes y)) e ∙ first_from
            | inr (inr m) ↦ absurd m
          ]

          -- the last pair up to the end bound is the last within
          within_last : last_number within ≡ Some last
          within_last =
              ap last_number
              (sym (between_up (bytes key_bytes) ps lo hi) ∙ ap (filter (λ x. is_from_start lo (bytes key_bytes x))) ended.is
              ∙ filter-append (λ x. is_from_start lo (bytes key_bytes x)) ended.front ((last, ended.pair) ∷ [])
              ∙ ap (λ l. filter (λ x. is_from_start lo (bytes key_bytes x)) ended.front ++ l) (cond-true (is_from_start lo (key_bytes ended.pair.0)) ((last, ended.pair) ∷ []) [] last_from))
              ∙ last_number-append (filter (λ x. is_from_start lo (bytes key_bytes x)) ended.front) ((last, ended.pair) ∷ [])

          -- the pairs within are those from the first through the last
          pub within_cut : Cut ps first last within
          within_cut = part_cut (λ x. is_from_start lo (bytes key_bytes x) && is_up_to_end hi (bytes key_bytes x)) ps (between_is_part (bytes key_bytes) ps lo hi content) first last within_first within_last

-- equal bytes are on the same side of an end bound
pub same_end : (hi : Bound (List ℕ)) (b : Bool) (k l : List ℕ) → k ≡ l → b ≡ is_up_to_end hi k → b ≡ is_up_to_end hi l
same_end hi b k l e h = h ∙ ap (is_up_to_end hi) e
