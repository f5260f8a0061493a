-- A pair that was placed and then removed.
use Rattle.std.proofs.Common.{◌≡◌, ◌≢◌, ℕ, true, false, not, List, ap, sym, ◌∙◌, bytes_eq, None, is_some}
use Rattle.std.proofs.lemmas.Bool.{false≢true, not-true, false_from_ne_true}
use Rattle.std.specs.Cmp.Lexicographic.{bytes_decides}
use Rattle.blart_keys.specs.Content.{IsContent, IsPut, stores, without}
use Rattle.blart_keys.specs.Steps.{bytes}
use Rattle.blart_keys.specs.Stored.{pair_at, has}
use Rattle.blart_keys.proofs.ContentLemmas.{same_content, stores_missing}
use Rattle.blart_keys.proofs.Mapped.{content_map, list_any-map}
use Rattle.blart_keys.proofs.Options.{none_of}
use Rattle.blart_keys.proofs.PutLemmas.{without_content}
use Rattle.blart_keys.proofs.RankLemmas.{Contains-from_Member, Member-from_Contains, filter_member, member_filter}
use Rattle.blart_keys.proofs.StoredLemmas.{stores_is}
use Rattle.art_tree.specs.Leaves.{Numbered, bytes as leaf_bytes}
use Rattle.art_tree.specs.Pairs.{pairs_of}

module _ {K V : Type 0} (kb : K → List ℕ) (S S' : List (K × V)) (x : K × V) (content : IsContent (bytes kb) S) (absent : pair_at kb S (kb x.0) ≡ None) (put : IsPut (bytes kb) S x S') where
  new : stores (bytes kb) S (kb x.0) ≡ false
  new = stores_is kb S (kb x.0) ∙ ap (λ o. is_some o) absent

  -- if a new pair is put and then removed, the list is unchanged
  pub taken_back : without (bytes kb) S' (kb x.0) ≡ S
  taken_back = same_content (bytes kb) (without (bytes kb) S' (kb x.0)) S (without_content (bytes kb) S' (kb x.0) put.content) content (λ y. (
    λ h. (
        let m = filter_member (λ (z : K × V). not (bytes_eq (kb z.0) (kb x.0))) S' y (Member-from_Contains y (without (bytes kb) S' (kb x.0)) h) in
        let off : kb y.0 ≢ kb x.0 = (λ e. false≢true (sym (not-true _ m.1) ∙ (bytes_decides (kb y.0) (kb x.0)).1 e)) in
        (put.others y off).0 (Contains-from_Member y S' m.0)),
    λ h. (
        let off : kb y.0 ≢ kb x.0 = stores_missing (bytes kb) S (kb x.0) y new (Member-from_Contains y S h) in
        let test : not (bytes_eq (kb y.0) (kb x.0)) ≡ true = ap not (false_from_ne_true (bytes_eq (kb y.0) (kb x.0)) (λ t. off ((bytes_decides (kb y.0) (kb x.0)).0 t))) in
        Contains-from_Member y (without (bytes kb) S' (kb x.0)) (member_filter (λ (z : K × V). not (bytes_eq (kb z.0) (kb x.0))) S' y (Member-from_Contains y S' ((put.others y off).1 h)) test)),
  ))

-- the same for numbered pairs, if the removal names the bytes
pub taken_back_at : {K V : Type 0} (kb : K → List ℕ) (ps : List (Numbered K V)) (content : IsContent (leaf_bytes kb) ps) (k : K) (w : V) → stores (leaf_bytes kb) ps (kb k) ≡ false → (S : List (K × V)) → IsPut (bytes kb) (pairs_of ps) (k, w) S
    → (q : List ℕ) → q ≡ kb k → (T : List (K × V)) → T ≡ without (bytes kb) S q → T ≡ pairs_of ps
taken_back_at kb ps content k w absent S put q same T gone =
    let none : has kb (pairs_of ps) (kb k) ≡ false = sym (stores_is kb (pairs_of ps) (kb k)) ∙ list_any-map (λ p. p.1) (λ x. bytes_eq (kb x.0) (kb k)) ps ∙ absent in
    gone ∙ ap (without (bytes kb) S) same ∙ taken_back kb (pairs_of ps) S (k, w) (content_map (λ p. p.1) (bytes kb) ps content) (none_of (pair_at kb (pairs_of ps) (kb k)) (λ t. false≢true (sym none ∙ t))) put
