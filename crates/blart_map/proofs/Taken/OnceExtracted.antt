-- What one `next` of a walk that extracts does, if its closure depends on the pair alone.
use Rattle.std.proofs.Common.{◌≡◌, ℕ, List, [], ◌∷◌, filter, Bool, true, false, cond, Option, Some, None, slice_get, refl, sym, ap, ◌∙◌, subst}
use Rattle.std.specs.Borrow.{Bor, MutBor}
use Rattle.std.specs.Bool.{MatchBool}
use Rattle.std.specs.Prelude.{MatchOption}
use Rattle.std.specs.Map.Calls.{CalledAtPair}
use denote.Param.Members.{Mut}
use Rattle.blart_keys.specs.declared.AsBytes.{Ghosts}
use Rattle.blart_keys.specs.Content.{IsContent, without}
use Rattle.blart_keys.specs.Steps.{bytes as pair_bytes}
use Rattle.blart_keys.specs.Walks.{TakesFirst}
use Rattle.blart_keys.proofs.PutLemmas.{without_cut}
use Rattle.art_tree.specs.Leaves.{Numbered, leaf_in, with_value, without_number}
use Rattle.art_tree.specs.Pairs.{pairs_of}
use Rattle.blart_map.specs.Content.{pairs}
use Rattle.blart_map.specs.declared.walks.extract_if.ExtractIf.{ExtractIf}
use Rattle.blart_map.specs.ExtractIf.{extract_left, ExtractsFirstTrue, stands_at, ExtractsNext}
use Rattle.blart_map.specs.OnceTaken.{taken_all, once_extracted, still_to_extract}
use Rattle.art_edits.proofs.Numbers.{cut_at, cut_pairs, left_pairs}
use Rattle.blart_map.proofs.Taken.OnceTaken.{same_value}

module _ {K V F : Type 0} (g : Mut F (Bor K × (MutBor V × Unit {0})) (Bool × (MutBor V × Unit {0}))) (I : F → Type 0) (test : K × V → Bool)
    (tells : (f : F) (k : K) (v : V) (b : Bool) (w : V) (h : F) → I f → CalledAtPair g f k v b w h → (b ≡ test (k, v)) × (w ≡ v) × I h) where
  -- the extracted pair was in S, and is removed; if there is none, the pairs are unchanged
  abbrev Out : List (Numbered K V) → Option (K × V) → List (Numbered K V) → Type 0
  Out S r S' = MatchOption r (S' ≡ S) (λ x. (id : ℕ) × (leaf_in S id ≡ Some x) × (S' ≡ without_number S id))

  -- the map will be the same in the end, the first pair that passes is extracted and no other, and
  -- I holds of the closure
  abbrev Steps : List (Numbered K V) → List (Numbered K V) → Option (K × V) → List (Numbered K V) → F → List (Numbered K V) → Type 0
  Steps S coming r S' f' rest =
      (taken_all test rest S' ≡ taken_all test coming S)
      × TakesFirst (filter test (pairs_of coming)) r (filter test (pairs_of rest))
      × I f'
      × Out S r S'

  -- the closure is called on the first pair
  module _ (p : Numbered K V) (coming S : List (Numbered K V)) (r : Option (K × V)) (S' : List (Numbered K V)) (f' : F) (rest : List (Numbered K V)) (w : V) (h : F) (same : w ≡ p.1.1) (named : leaf_in S p.0 ≡ Some p.1) (after : I h)
      (goes : ExtractsFirstTrue g (stands_at S h coming) r (stands_at S' f' rest) → Steps S coming r S' f' rest) where
    asked : (b : Bool) → b ≡ test p.1 → MatchBool b ((r ≡ Some (p.1.0, w)) × (S' ≡ without_number S p.0) × (f' ≡ h) × (rest ≡ coming)) (ExtractsFirstTrue g (stands_at (with_value S p.0 w) h coming) r (stands_at S' f' rest)) → Steps S (p ∷ coming) r S' f' rest
    asked true e m =
        let others = filter test (pairs_of coming) in (
          ap (λ l. taken_all test l S') m.3 ∙ ap (taken_all test coming) m.1 ∙ ap (λ b. taken_all test coming (cond b (without_number S p.0) S)) e,
          subst (λ (r : Option (K × V)). TakesFirst (cond (test p.1) (p.1 ∷ others) others) r (filter test (pairs_of rest))) (sym m.0)
              (sym (ap (λ b. cond b (p.1 ∷ others) others) e) ∙ ap (λ (v : V). (p.1.0, v) ∷ others) (sym same) ∙ ap (λ (l : List (Numbered K V)). (p.1.0, w) ∷ filter test (pairs_of l)) (sym m.3)),
          subst I (sym m.2) after,
          subst (λ (r : Option (K × V)). Out S r S') (sym m.0) (p.0, named ∙ ap (λ (v : V). Some (p.1.0, v)) (sym same), m.1),
        )
    asked false e m =
        let others = filter test (pairs_of coming) in
        let whole : with_value S p.0 w ≡ S = ap (with_value S p.0) same ∙ same_value test S p.0 p.1.0 p.1.1 named in
        let ih = goes (subst (λ (T : List (Numbered K V)). ExtractsFirstTrue g (stands_at T h coming) r (stands_at S' f' rest)) whole m) in (
          ih.0 ∙ ap (λ b. taken_all test coming (cond b (without_number S p.0) S)) e,
          subst (λ (l : List (K × V)). TakesFirst l r (filter test (pairs_of rest))) (ap (λ b. cond b (p.1 ∷ others) others) e) ih.1,
          ih.2,
          ih.3,
        )

  steps : (coming S : List (Numbered K V)) (f : F) (r : Option (K × V)) (S' : List (Numbered K V)) (f' : F) (rest : List (Numbered K V)) → I f → ExtractsFirstTrue g (stands_at S f coming) r (stands_at S' f' rest) → Steps S coming r S' f' rest
  steps [] S f r S' f' rest i a = (
    ap (λ l. taken_all test l S') a.3 ∙ a.1,
    subst (λ (r : Option (K × V)). TakesFirst [] r (filter test (pairs_of rest))) (sym a.0) (refl, ap (λ (l : List (Numbered K V)). filter test (pairs_of l)) a.3),
    subst I (sym a.2) i,
    subst (λ (r : Option (K × V)). Out S r S') (sym a.0) a.1,
  )
  steps (p ∷ coming) S f r S' f' rest i a =
      let t = tells f p.1.0 p.1.1 a.0 a.1 a.2 i a.4 in
      asked p coming S r S' f' rest a.1 a.2 t.1 a.3 t.2 (λ b. steps coming S a.2 r S' f' rest t.2 b) a.0 t.0 a.5

-- the first item, if there is one
first_of : {X : Type 0} (old new : List X) (r : Option X) → TakesFirst old r new → r ≡ slice_get old 0
first_of old new None e = sym (ap (λ l. slice_get l 0) e.0)
first_of old new (Some x) e = sym (ap (λ l. slice_get l 0) e)

-- without the pair of a number, the pairs are those with other bytes
out_of : {K V : Type 0} (kb : K → List ℕ) (S S' : List (Numbered K V)) → IsContent (pair_bytes kb) (pairs_of S) → (r : Option (K × V)) → MatchOption r (S' ≡ S) (λ x. (id : ℕ) × (leaf_in S id ≡ Some x) × (S' ≡ without_number S id))
    → MatchOption r (S' ≡ S) (λ x. pairs_of S' ≡ without (pair_bytes kb) (pairs_of S) (kb x.0))
out_of kb S S' content None o = o
out_of kb S S' content (Some x) o =
    let c = cut_at S o.0 x o.1 in
    let cut = cut_pairs S o.0 x c in
    ap pairs_of o.2 ∙ left_pairs S o.0 x c ∙ sym (ap (λ l. without (pair_bytes kb) l (kb x.0)) cut ∙ without_cut (pair_bytes kb) (pairs_of c.before) (pairs_of c.after) x (kb x.0) (subst (IsContent (pair_bytes kb)) cut content) refl)

-- s is the walk before a `next`, and t is the walk after it
module _ {K V F : Type 0} {p : ℕ} {k : Ghosts K} (g : Mut F (Bor K × (MutBor V × Unit {0})) (Bool × (MutBor V × Unit {0}))) (s t : ExtractIf K V F p k) (r : Option (K × V)) (next : ExtractsNext g s r t) where
  pub extracted : (I : F → Type 0) (test : K × V → Bool) → ((f : F) (k : K) (v : V) (b : Bool) (w : V) (h : F) → I f → CalledAtPair g f k v b w h → (b ≡ test (k, v)) × (w ≡ v) × I h)
      → I s.pred → (once_extracted test t ≡ once_extracted test s) × TakesFirst (still_to_extract test s) r (still_to_extract test t) × I t.pred
  unfolding pairs
  extracted I test tells i = let h = steps g I test tells (extract_left s) s.map.now s.pred r t.map.now t.pred (extract_left t) i next.1 in (ap pairs_of h.0, h.1, h.2)

  -- the extracted pair is the first that passes, and the map has S without it; if there is none,
  -- the map is unchanged
  pub one_out : (I : F → Type 0) (test : K × V → Bool) → ((f : F) (k : K) (v : V) (b : Bool) (w : V) (h : F) → I f → CalledAtPair g f k v b w h → (b ≡ test (k, v)) × (w ≡ v) × I h)
      → I s.pred → (kb : K → List ℕ) (S : List (Numbered K V)) → s.map.now ≡ S → IsContent (pair_bytes kb) (pairs S)
      → (r ≡ slice_get (still_to_extract test s) 0) × MatchOption r (t.map.now ≡ S) (λ x. pairs t.map.now ≡ without (pair_bytes kb) (pairs S) (kb x.0))
  unfolding pairs
  one_out I test tells i kb S same content =
      let h = steps g I test tells (extract_left s) s.map.now s.pred r t.map.now t.pred (extract_left t) i next.1 in (
        first_of (still_to_extract test s) (still_to_extract test t) r h.1,
        out_of kb S t.map.now content r (subst (λ (T : List (Numbered K V)). MatchOption r (t.map.now ≡ T) (λ x. (id : ℕ) × (leaf_in T id ≡ Some x) × (t.map.now ≡ without_number T id))) same h.3),
      )
