-- A value that is set at a key, as seen in the pairs.
use Rattle.std.proofs.Common.{◌≡◌, ◌+◌, ℕ, true, false, cond, List, [], length, refl, sym, ap, ◌∙◌, subst, Option, Some, None, option_map, is_some, bytes_eq, if◌then◌else◌, add-zero}
use Rattle.std.specs.Option.{unwrap_or}
use Rattle.blart_keys.specs.Content.{IsContent, IsPut, stores, at, without}
use Rattle.blart_keys.specs.Steps.{bytes as pair_bytes}
use Rattle.blart_keys.specs.Stored.{pair_at, value_at, has, Updates, written_at}
use Rattle.blart_keys.proofs.ContentLemmas.{at_Some, at_member}
use Rattle.blart_keys.proofs.Mapped.{content_map, list_any-map, Member-map}
use Rattle.blart_keys.proofs.Options.{some_of}
use Rattle.blart_keys.proofs.RankLemmas.{Member, Contains-from_Member, Member-from_Contains}
use Rattle.blart_keys.proofs.StoredLemmas.{writes_at, updates_put, len_put, stores_is, pair_at_member, updates_without, len_without}
use Rattle.art_tree.specs.Leaves.{Numbered, leaf_in, keys_in, Has, AreDistinct, with_value, without_number, bytes}
use Rattle.art_tree.specs.Pairs.{pairs_of}
use Rattle.art_tree.proofs.CallerLemmas.{Member-from_leaf_in}
use Rattle.art_edits.proofs.Numbers.{removed_pairs}
use Rattle.art_edits.proofs.Placed.Writing.{written_found}
use Rattle.art_edits.proofs.Placed.WrittenLeaf.{leaf_in-written}

module _ {K V : Type 0} (kb : K → List ℕ) where
  -- the bytes of a key are unchanged if a value is written
  written_bytes : (q : List ℕ) (v : V) (x : K × V) → kb (if bytes_eq (kb x.0) q then (x.0, v) else x).0 ≡ kb x.0
  written_bytes q v x = elim (bytes_eq (kb x.0) q) as (λ b. kb (cond b (x.0, v) x).0 ≡ kb x.0) [ true ↦ refl | false ↦ refl ]

  -- a content is still a content after a value was written
  content_written : (S : List (K × V)) (q : List ℕ) (v : V) → IsContent (pair_bytes kb) S → IsContent (pair_bytes kb) (written_at kb S q v)
  content_written S q v content =
      content_map (λ (x : K × V). if bytes_eq (kb x.0) q then (x.0, v) else x) (pair_bytes kb) S (subst (λ (b : K × V → List ℕ). IsContent b S) (λ i x. sym (written_bytes q v x) i) content)

  -- an update from one content to another puts the pair
  pub put_from_updates : (S S' : List (K × V)) (x : K × V) → IsContent (pair_bytes kb) S → IsContent (pair_bytes kb) S' → Updates kb S S' (kb x.0) (Some x) → IsPut (pair_bytes kb) S x S'
  unfolding pair_at
  put_from_updates S S' x content content' up = record {
    content = content';
    there = Contains-from_Member x S' (at_Some (pair_bytes kb) S' (kb x.0) x up.0).0;
    others = λ y off. (
      λ m. Contains-from_Member y S (at_Some (pair_bytes kb) S (kb y.0) y (sym (up.1 (kb y.0) off) ∙ pair_at_member kb S' content' y (Member-from_Contains y S' m))).0,
      λ m. Contains-from_Member y S' (at_Some (pair_bytes kb) S' (kb y.0) y (up.1 (kb y.0) off ∙ pair_at_member kb S content y (Member-from_Contains y S m))).0,
    );
  }

  module _ (ps : List (Numbered K V)) (content : IsContent (bytes kb) ps) (distinct : AreDistinct ps) where
    abbrev whole : IsContent (pair_bytes kb) (pairs_of ps)
    whole = content_map (λ p. p.1) (pair_bytes kb) ps content

    -- the pair of a number is found by its bytes
    pub found_at : (i : ℕ) (x : K × V) → leaf_in ps i ≡ Some x → at (bytes kb) ps (kb x.0) ≡ Some (i, x)
    found_at i x l = at_member (bytes kb) ps content (kb x.0) (i, x) (Member-from_leaf_in ps i x l) refl

    -- a value written under a number is written at its key's bytes
    pub written_there : (i : ℕ) (x : K × V) → leaf_in ps i ≡ Some x → (w : V) → pairs_of (with_value ps i w) ≡ written_at kb (pairs_of ps) (kb x.0) w
    written_there i x l w = written_found kb ps content distinct (kb x.0) i (sym (ap (option_map (λ (p : Numbered K V). p.0)) (found_at i x l))) w

    pub pair_there : (i : ℕ) (x : K × V) → leaf_in ps i ≡ Some x → pair_at kb (pairs_of ps) (kb x.0) ≡ Some x
    pair_there i x l = pair_at_member kb (pairs_of ps) whole x (member ps (Member-from_leaf_in ps i x l))
      where
        member : (qs : List (Numbered K V)) → Member (i, x) qs → Member x (pairs_of qs)
        member qs m = Member-map (λ (p : Numbered K V). p.1) (i, x) qs m

    -- the pair has that value, and the other pairs and the number of pairs are unchanged
    pub rewritten : (i : ℕ) (x : K × V) → leaf_in ps i ≡ Some x → (w : V) → Updates kb (pairs_of ps) (pairs_of (with_value ps i w)) (kb x.0) (Some (x.0, w)) × (length (pairs_of (with_value ps i w)) ≡ length (pairs_of ps))
    rewritten i x l w =
        let S = pairs_of ps in
        let e = written_there i x l w in
        let up = writes_at kb S (kb x.0) w in
        let there = ap (option_map (λ (p : K × V). (p.0, w))) (pair_there i x l) in
        subst (λ S'. Updates kb S S' (kb x.0) (Some (x.0, w)) × (length S' ≡ length S)) (sym e) ((up.0.0 ∙ there, up.0.1), up.1)

    -- the pairs are still a content
    pub rewritten_content : (i : ℕ) (x : K × V) → leaf_in ps i ≡ Some x → (w : V) → IsContent (pair_bytes kb) (pairs_of (with_value ps i w))
    rewritten_content i x l w = subst (IsContent (pair_bytes kb)) (sym (written_there i x l w)) (content_written (pairs_of ps) (kb x.0) w whole)

    module _ (i : ℕ) (has : Has ps i) where
      -- a value is written there, as the contract of an entry says
      pub occupied_set : (w : V) → Updates kb (pairs_of ps) (pairs_of (with_value ps i w)) (unwrap_or (keys_in kb ps i) []) (option_map (λ k. (k, w)) (option_map (λ p. p.0) (leaf_in ps i)))
          × (value_at kb (pairs_of (with_value ps i w)) (unwrap_or (keys_in kb ps i) []) ≡ Some w) × (length (pairs_of (with_value ps i w)) ≡ length (pairs_of ps) + 0) × (with_value ps i w ≡ with_value ps i w)
      occupied_set w =
          let s = some_of (leaf_in ps i) has in
          let S = pairs_of ps in
          let S' = pairs_of (with_value ps i w) in
          let r = rewritten i s.0 s.1 w in
          let P : Option (K × V) → Type 0 = λ o.
          Updates kb S S' (unwrap_or (option_map (λ (x : K × V). kb x.0) o) []) (option_map (λ k. (k, w)) (option_map (λ p. p.0) o))
          × (value_at kb S' (unwrap_or (option_map (λ (x : K × V). kb x.0) o) []) ≡ Some w) × (length S' ≡ length S + 0) × (with_value ps i w ≡ with_value ps i w) in
          subst P (sym s.1) (r.0, ap (option_map (λ (p : K × V). p.1)) r.0.0, r.1 ∙ sym (add-zero (length S)), refl)

      -- the pair is removed, as the contract of an entry says
      pub occupied_removed : Updates kb (pairs_of ps) (pairs_of (without_number ps i)) (unwrap_or (keys_in kb ps i) []) None × (length (pairs_of (without_number ps i)) + 1 ≡ length (pairs_of ps))
          × (pairs_of (without_number ps i) ≡ without (pair_bytes kb) (pairs_of ps) (unwrap_or (keys_in kb ps i) []))
      unfolding pair_at
      occupied_removed =
          let s = some_of (leaf_in ps i) has in
          let S = pairs_of ps in
          let q = kb s.0.0 in
          let there = pair_there i s.0 s.1 in
          let e : pairs_of (without_number ps i) ≡ without (pair_bytes kb) S q = removed_pairs kb ps q content i s.0 (sym there) s.1 in
          let l : length (without (pair_bytes kb) S q) + 1 ≡ length S = ap (λ b. length (without (pair_bytes kb) S q) + (if b then 1 else 0)) (sym (ap (λ o. is_some o) there)) ∙ len_without kb S q whole in
          let R : List (K × V) → Type 0 = λ T. Updates kb S T q None × (length T + 1 ≡ length S) × (T ≡ without (pair_bytes kb) S q) in
          let all = subst R (sym e) (updates_without kb S q, l, refl) in
          let P : Option (K × V) → Type 0 = λ o.
          Updates kb S (pairs_of (without_number ps i)) (unwrap_or (option_map (λ (x : K × V). kb x.0) o) []) None × (length (pairs_of (without_number ps i)) + 1 ≡ length S)
          × (pairs_of (without_number ps i) ≡ without (pair_bytes kb) S (unwrap_or (option_map (λ (x : K × V). kb x.0) o) [])) in
          subst P (sym s.1) all

  -- the bytes of a key are unchanged if a value is written
  pub bytes_written : (ps : List (Numbered K V)) (i : ℕ) (w : V) → unwrap_or (keys_in kb (with_value ps i w) i) [] ≡ unwrap_or (keys_in kb ps i) []
  bytes_written ps i w = ap (λ (o : Option (K × V)). unwrap_or (option_map (λ x. kb x.0) o) []) (leaf_in-written ps i w) ∙ kept (leaf_in ps i)
    where
      kept : (o : Option (K × V)) → unwrap_or (option_map (λ (x : K × V). kb x.0) (option_map (λ (x : K × V). (x.0, w)) o)) [] ≡ unwrap_or (option_map (λ (x : K × V). kb x.0) o) []
      kept None = refl
      kept (Some x) = refl

  -- the pair of the number, with the value
  pub pair_written : (ps : List (Numbered K V)) (i : ℕ) (w : V) → leaf_in (with_value ps i w) i ≡ option_map {U = K × V} (λ k. (k, w)) (option_map (λ p. p.0) (leaf_in ps i))
  pair_written ps i w = leaf_in-written ps i w ∙ twice (leaf_in ps i)
    where
      twice : (o : Option (K × V)) → option_map {U = K × V} (λ (x : K × V). (x.0, w)) o ≡ option_map {U = K × V} (λ k. (k, w)) (option_map (λ (x : K × V). x.0) o)
      twice None = refl
      twice (Some x) = refl

  -- a new pair is placed, and then a value is written there
  module _ (ps mid ns : List (Numbered K V)) (same : mid ≡ ps) (content : IsContent (bytes kb) ps) (id : ℕ) (k : K) (v : V) (absent : stores (bytes kb) ps (kb k) ≡ false) (put : IsPut (pair_bytes kb) (pairs_of mid) (k, v) (pairs_of ns)) (whole_now : IsContent (bytes kb) ns) (distinct : AreDistinct ns) (there : leaf_in ns id ≡ Some (k, v)) where
    abbrev S : List (K × V)
    S = pairs_of ps

    old : IsContent (pair_bytes kb) S
    old = content_map (λ p. p.1) (pair_bytes kb) ps content

    pub placed_put : IsPut (pair_bytes kb) (pairs_of ps) (k, v) (pairs_of ns)
    placed_put = subst (λ l. IsPut (pair_bytes kb) (pairs_of l) (k, v) (pairs_of ns)) same put

    placed_len : length (pairs_of ns) ≡ length (pairs_of ps) + 1
    placed_len =
        let none : has kb S (kb k) ≡ false = sym (stores_is kb S (kb k)) ∙ list_any-map (λ p. p.1) (λ x. bytes_eq (kb x.0) (kb k)) ps ∙ absent in
        len_put kb S (pairs_of ns) (k, v) old placed_put ∙ ap (λ b. length S + (if b then 0 else 1)) none

    pub placed_set : (w : V) → Updates kb (pairs_of ps) (pairs_of (with_value ns id w)) (kb k) (Some (k, w)) × (value_at kb (pairs_of (with_value ns id w)) (kb k) ≡ Some w)
        × (length (pairs_of (with_value ns id w)) ≡ length (pairs_of ps) + 1) × IsPut (pair_bytes kb) (pairs_of ps) (k, w) (pairs_of (with_value ns id w))
    placed_set w =
        let r = rewritten ns whole_now distinct id (k, v) there w in
        let first = updates_put kb S (pairs_of ns) (k, v) old placed_put in
        let up : Updates kb S (pairs_of (with_value ns id w)) (kb k) (Some (k, w)) = (r.0.0, λ q off. r.0.1 q off ∙ first.1 q off) in (
          up,
          ap (option_map (λ (p : K × V). p.1)) r.0.0,
          r.1 ∙ placed_len,
          put_from_updates S (pairs_of (with_value ns id w)) (k, w) old (rewritten_content ns whole_now distinct id (k, v) there w) up,
        )

    -- the same, if no other value was written
    pub placed_entry_set : Updates kb (pairs_of ps) (pairs_of ns) (kb k) (Some (k, v)) × (value_at kb (pairs_of ns) (kb k) ≡ Some v)
        × (length (pairs_of ns) ≡ length (pairs_of ps) + 1) × IsPut (pair_bytes kb) (pairs_of ps) (k, v) (pairs_of ns)
    placed_entry_set =
        let up = updates_put kb S (pairs_of ns) (k, v) old placed_put in
        (up, ap (option_map (λ (p : K × V). p.1)) up.0, placed_len, placed_put)
