-- A value written at a key that was put over all pairs to which it is related.
use Rattle.std.proofs.Common.{◌≡◌, ℕ, List, [], ◌∷◌, inl, inr, refl, sym, ap, ◌∙◌, Some, option_map}
use Rattle.std.proofs.lemmas.Bool.{false≢true}
use Rattle.std.proofs.lemmas.Bool.Decides.{eqb_tells}
use Rattle.blart_keys.specs.Bytes.{related}
use Rattle.blart_keys.specs.Content.{IsContent, IsPut, IsOver}
use Rattle.blart_keys.specs.Steps.{bytes as pair_bytes}
use Rattle.blart_keys.specs.Stored.{value_at, Overwrites}
use Rattle.blart_keys.proofs.ContentLemmas.{related-same}
use Rattle.blart_keys.proofs.Mapped.{content_map}
use Rattle.blart_keys.proofs.StoredLemmas.{overwrites_over}
use Rattle.art_tree.specs.Leaves.{Numbered, leaf_in, AreDistinct, with_value, with_pair, bytes}
use Rattle.art_tree.specs.Pairs.{pairs_of}
use Rattle.art_edits.proofs.Placed.Setting.{rewritten, rewritten_content, put_from_updates}

module _ {K V : Type 0} where
  -- if a pair is replaced, and then its value, the pair has the new value
  pub written_now : (ps : List (Numbered K V)) (i : ℕ) (k : K) (v w : V) → with_value (with_pair ps i (k, v)) i w ≡ with_pair ps i (k, w)
  written_now [] i k v w = refl
  written_now (p ∷ ps) i k v w = elim (eqb_tells p.0 i) [ inl t ↦ rw t.0 (rw t.0 refl) | inr f ↦ rw f.0 (rw f.0 (ap (λ l. p ∷ l) (written_now ps i k v w))) ]

-- an item that replaces an item put over the related items is put over them
over_put : {X : Type 0} (b : X → List ℕ) (S T S' : List X) (x y : X) → b x ≡ b y → IsOver b S x T → IsPut b T y S' → IsOver b S y S'
over_put b S T S' x y same over put = record {
  content = put.content;
  there = put.there;
  others = λ z u.
      let p = put.others z (λ e. false≢true (sym u ∙ related-same (b z) (b y) e)) in
      let o = over.others z (ap (λ q. related (b z) q) same ∙ u) in
      (λ h. o.0 (p.0 h), λ h. p.1 (o.1 h));
}

module _ {K V : Type 0} (kb : K → List ℕ) (old new : List (Numbered K V)) (k : K) (v : V) (last : ℕ) (content_old : IsContent (pair_bytes kb) (pairs_of old)) (content : IsContent (bytes kb) new) (distinct : AreDistinct new) (over : IsOver (pair_bytes kb) (pairs_of old) (k, v) (pairs_of new)) (now : leaf_in new last ≡ Some (k, v)) where
  -- the key has that value, and replaces all keys to which it is related
  pub over_written : (w : V) → Overwrites kb (pairs_of old) (k, w) (pairs_of (with_value new last w)) × (value_at kb (pairs_of (with_value new last w)) (kb k) ≡ Some w) × IsOver (pair_bytes kb) (pairs_of old) (k, w) (pairs_of (with_value new last w))
  over_written w =
      let mid = content_map (λ p. p.1) (pair_bytes kb) new content in
      let put = put_from_updates kb (pairs_of new) (pairs_of (with_value new last w)) (k, w) mid (rewritten_content kb new content distinct last (k, v) now w) (rewritten kb new content distinct last (k, v) now w).0 in
      let all = over_put (pair_bytes kb) (pairs_of old) (pairs_of new) (pairs_of (with_value new last w)) (k, v) (k, w) refl over put in
      let seen = overwrites_over kb (pairs_of old) (pairs_of (with_value new last w)) (k, w) content_old all in
      (seen, ap (option_map (λ (p : K × V). p.1)) seen.there, all)
