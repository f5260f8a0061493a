-- What overlaps after a pair is put, or removed, at some bytes.
use Rattle.std.proofs.Common.{◌≡◌, ◌≢◌, ℕ, true, false, List, Option, Some, refl, sym, ap, ◌∙◌, is_some, bytes_eq}
use Rattle.std.proofs.lemmas.Bool.{false≢true, false_from_ne_true}
use Rattle.std.proofs.Math.Bool.{or_comm}
use Rattle.std.specs.Cmp.{both_ways}
use Rattle.std.specs.Cmp.Lexicographic.{bytes_decides}
use Rattle.blart_keys.specs.Bytes.{begins, related, conflicts}
use Rattle.blart_keys.specs.Steps.{bytes}
use Rattle.blart_keys.specs.Stored.{has, overlaps, Updates}
use Rattle.blart_keys.proofs.RankLemmas.{any_member}
use Rattle.blart_keys.proofs.ContentLemmas.{stores_found, stores_member, conflict_found}
use Rattle.blart_keys.proofs.StoredLemmas.{stores_is}
use Rattle.blart_keys.specs.Routed.{OverlapsToo}

module _ {K V : Type 0} (kb : K → List ℕ) where
  -- if S overlaps r, it has other bytes that are related to r
  met : (S : List (K × V)) (r : List ℕ) → overlaps kb S r ≡ true → (p : List ℕ) × (has kb S p ≡ true) × (related p r ≡ true) × (p ≢ r)
  unfolding overlaps
  met S r h =
      let c = conflict_found (bytes kb) S r h in
      (kb c.0.0, sym (stores_is kb S (kb c.0.0)) ∙ stores_member (bytes kb) S (kb c.0.0) c.0 c.1 refl, c.2, c.3)

  -- and if S has the bytes q, it overlaps all other bytes that are related to q
  pub overlaps_near : (S : List (K × V)) (q r : List ℕ) → has kb S q ≡ true → related r q ≡ true → r ≢ q → overlaps kb S r ≡ true
  unfolding overlaps
  overlaps_near S q r h rel off =
      let f = stores_found (bytes kb) S q (stores_is kb S q ∙ h) in
      let other : bytes_eq q r ≡ false = false_from_ne_true _ (λ t. off (sym ((bytes_decides q r).0 t))) in
      let meets : conflicts q r ≡ true = rw (or_comm (begins q r) (begins r q) ∙ rel, other) refl in
      any_member (λ x. conflicts (kb x.0) r) S f.0 f.1 (ap (λ k. conflicts k r) f.2 ∙ meets)

  module _ (S S' : List (K × V)) (q : List ℕ) (w : Option (K × V)) (u : Updates kb S S' q w) (r : List ℕ) where
    stands : (p : List ℕ) → p ≢ q → has kb S' p ≡ has kb S p
    stands p off = ap (λ o. is_some o) (u.1 p off)

    -- if q is r, or is not related to r, S' overlaps r if and only if S does
    apart : ((p : List ℕ) → related p r ≡ true → p ≢ r → p ≢ q) → overlaps kb S' r ≡ overlaps kb S r
    apart off = both_ways (overlaps kb S' r) (overlaps kb S r)
        (λ h. let m = met S' r h in overlaps_near S m.0 r (sym (stands m.0 (off m.0 m.2 m.3)) ∙ m.1) (or_comm (begins r m.0) (begins m.0 r) ∙ m.2) (λ e. m.3 (sym e)))
        (λ h. let m = met S r h in overlaps_near S' m.0 r (stands m.0 (off m.0 m.2 m.3) ∙ m.1) (or_comm (begins r m.0) (begins m.0 r) ∙ m.2) (λ e. m.3 (sym e)))

    pub overlaps_apart : related r q ≡ false → overlaps kb S' r ≡ overlaps kb S r
    overlaps_apart off = apart (λ p rel n e. false≢true (sym off ∙ or_comm (begins r q) (begins q r) ∙ ap (λ k. related k r) (sym e) ∙ rel))

  pub overlaps_put : (S S' : List (K × V)) (q : List ℕ) (x : K × V) → Updates kb S S' q (Some x) → OverlapsToo kb S S' q
  overlaps_put S S' q x u = record {
    there = apart S S' q (Some x) u q (λ p rel n. n);
    near = λ r rel off. overlaps_near S' q r (ap (λ o. is_some o) u.0) rel off;
    others = λ r off. overlaps_apart S S' q (Some x) u r off;
  }
