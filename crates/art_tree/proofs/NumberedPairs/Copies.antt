-- Copies of numbered pairs: clones under the same numbers, whose keys have the same bytes.
use Rattle.std.proofs.Common.{◌≡◌, ℕ, suc, List, [], ◌∷◌, map, Option, Some, Bool, true, false, Contains, refl, ap, eqb, arith}
use Rattle.std.specs.Prelude.{option_map, if◌then◌else◌}
use Rattle.std.specs.List.{AllByRecursion}
use Rattle.blart_keys.specs.Content.{IsContent}
use Rattle.blart_keys.proofs.PartLemmas.{PartsBelow}
use Rattle.blart_keys.proofs.ContentLemmas.{Before, Ranked-from_content, content_from_Ranked}
use Rattle.blart_keys.proofs.RankLemmas.{Ranked}
use Rattle.art_rows.specs.Leaves.{AreCopies}
use Rattle.art_tree.specs.Clones.{AreClones}
use Rattle.art_tree.specs.Leaves.{Numbered, bytes, keys_in, leaf_in}

module _ {K V : Type 0} (kb : K → List ℕ) (is_key : K → K → Type 0) (is_value : V → V → Type 0) where
  -- each clone of a key has the same bytes
  abbrev pub AreFirm : List (Numbered K V) → Type 0
  AreFirm ps = (k j : K) (v : V) → Contains (map (λ p. p.1) ps) (k, v) → is_key k j → kb j ≡ kb k

  firm-first : (p : Numbered K V) (ps : List (Numbered K V)) → AreFirm (p ∷ ps) → (k : K) → is_key p.1.0 k → kb k ≡ kb p.1.0
  firm-first p ps f k c = f p.1.0 k p.1.1 (0, omega arith, refl) c

  firm-rest : (p : Numbered K V) (ps : List (Numbered K V)) → AreFirm (p ∷ ps) → AreFirm ps
  firm-rest p ps f k j v m = f k j v (suc m.0, (let l = m.1 in omega arith), m.2)

  -- without the numbers, copies are clones
  pub clones-copies : (ps qs : List (Numbered K V)) → AreFirm ps → AreCopies is_key is_value ps qs → AreClones kb is_key is_value (map (λ p. p.1) ps) (map (λ p. p.1) qs)
  clones-copies [] [] f h = tt
  clones-copies [] (q ∷ qs) f h = absurd h
  clones-copies (p ∷ ps) [] f h = absurd h
  clones-copies (p ∷ ps) (q ∷ qs) f h =
      (record { key = h.0.key; bytes = firm-first p ps f q.1.0 h.0.key; value = h.0.value }, clones-copies ps qs (firm-rest p ps f) h.1)

  all-copies : (a b : List ℕ) → b ≡ a → (ps qs : List (Numbered K V)) → AreFirm ps → AreCopies is_key is_value ps qs → AllByRecursion (λ p. PartsBelow a (bytes kb p)) ps → AllByRecursion (λ p. PartsBelow b (bytes kb p)) qs
  all-copies a b e [] [] f h r = tt
  all-copies a b e [] (q ∷ qs) f h r = absurd h
  all-copies a b e (p ∷ ps) [] f h r = absurd h
  all-copies a b e (p ∷ ps) (q ∷ qs) f h r = (rw (e, firm-first p ps f q.1.0 h.0.key) r.0, all-copies a b e ps qs (firm-rest p ps f) h.1 r.1)

  ranked-copies : (ps qs : List (Numbered K V)) → AreFirm ps → AreCopies is_key is_value ps qs → Ranked (Before (bytes kb)) ps → Ranked (Before (bytes kb)) qs
  ranked-copies [] [] f h r = tt
  ranked-copies [] (q ∷ qs) f h r = absurd h
  ranked-copies (p ∷ ps) [] f h r = absurd h
  ranked-copies (p ∷ ps) (q ∷ qs) f h r =
      (all-copies (bytes kb p) (bytes kb q) (firm-first p ps f q.1.0 h.0.key) ps qs (firm-rest p ps f) h.1 r.0, ranked-copies ps qs (firm-rest p ps f) h.1 r.1)

  -- copies of a content are a content
  pub content-copies : (ps qs : List (Numbered K V)) → AreFirm ps → AreCopies is_key is_value ps qs → IsContent (bytes kb) ps → IsContent (bytes kb) qs
  content-copies ps qs f h c = content_from_Ranked (bytes kb) qs (ranked-copies ps qs f h (Ranked-from_content (bytes kb) ps c))

  key_under : (here : Bool) (x y : K × V) (o p : Option (K × V)) → kb y.0 ≡ kb x.0 → option_map (λ (z : K × V). kb z.0) p ≡ option_map (λ (z : K × V). kb z.0) o →
      option_map (λ (z : K × V). kb z.0) (if here then Some y else p) ≡ option_map (λ (z : K × V). kb z.0) (if here then Some x else o)
  key_under true x y o p e rest = ap Some e
  key_under false x y o p e rest = rest

  -- each number has a key with the same bytes
  pub keys-copies : (ps qs : List (Numbered K V)) → AreFirm ps → AreCopies is_key is_value ps qs → (i : ℕ) → keys_in kb qs i ≡ keys_in kb ps i
  keys-copies [] [] f h i = refl
  keys-copies [] (q ∷ qs) f h i = absurd h
  keys-copies (p ∷ ps) [] f h i = absurd h
  keys-copies (p ∷ ps) (q ∷ qs) f h i =
      rw (h.0.number) (key_under (eqb p.0 i) p.1 q.1 (leaf_in ps i) (leaf_in qs i) (firm-first p ps f q.1.0 h.0.key) (keys-copies ps qs (firm-rest p ps f) h.1 i))
