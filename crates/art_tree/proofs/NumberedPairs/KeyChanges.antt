-- How the keys change if a pair is added, removed or exchanged.
use Rattle.std.proofs.Common.{◌≡◌, ◌≢◌, ℕ, ◌<◌, List, [], ◌∷◌, ◌++◌, length, take, ap, arith, sym, subst, ◌∙◌, inl, inr, false, Option, Some, None, option_map, get_or}
use Rattle.std.proofs.lemmas.Bool.{false_from_ne_true, cases_lt}
use Rattle.std.proofs.lemmas.Bool.Decides.{eqb_tells}
use Rattle.std.proofs.lemmas.List.{length-take-le}
use Rattle.blart_keys.specs.Bytes.{related}
use Rattle.art_tree.specs.Begins.{Bytes, Begins, next_byte}
use Rattle.art_tree.specs.Gaps.{LeavesNearest}
use Rattle.art_tree.specs.Leaves.{Numbered, leaf_in, keys_in, OthersStand}
use Rattle.art_tree.proofs.BeginsLemmas.{Begins-take, Begins-linear, Begins-more, Begins-past, Begins-trans, related_cases}
use Rattle.art_tree.proofs.Invariant.Growing.{Departs, Gains}
use Rattle.art_tree.specs.Calls.Removing.{Loses}

-- the key of the leaf i was k, and is now k'
pub record Exchanges (old new : ℕ → Option Bytes) (i : ℕ) (k k' : Bytes) : Type 0 where
  pub was : old i ≡ Some k
  pub now : new i ≡ Some k'
  pub others : (j : ℕ) → j ≢ i → new j ≡ old j

module _ {K V : Type 0} (key_bytes : K → Bytes) (old new : List (Numbered K V)) (i : ℕ) (others : OthersStand old new i) where
  abbrev bytes_of : K × V → Bytes
  bytes_of x = key_bytes x.0

  -- a pair under a fresh number adds a key
  pub gains_from : (p : K × V) → leaf_in old i ≡ None → leaf_in new i ≡ Some p → Gains (keys_in key_bytes old) (keys_in key_bytes new) i (key_bytes p.0)
  gains_from p fresh now = record { fresh = ap (option_map bytes_of) fresh; has = ap (option_map bytes_of) now; others = λ j off. ap (option_map bytes_of) (others j off) }

  -- a pair that is removed removes a key
  pub loses_from : (p : K × V) → leaf_in old i ≡ Some p → leaf_in new i ≡ None → Loses (keys_in key_bytes old) (keys_in key_bytes new) i (key_bytes p.0)
  loses_from p was gone = record { was = ap (option_map bytes_of) was; gone = ap (option_map bytes_of) gone; others = λ j off. ap (option_map bytes_of) (others j off) }

  -- another pair under a number exchanges a key
  pub exchanges_from : (p p' : K × V) → leaf_in old i ≡ Some p → leaf_in new i ≡ Some p' → Exchanges (keys_in key_bytes old) (keys_in key_bytes new) i (key_bytes p.0) (key_bytes p'.0)
  exchanges_from p p' was now = record { was = ap (option_map bytes_of) was; now = ap (option_map bytes_of) now; others = λ j off. ap (option_map bytes_of) (others j off) }

module _ (keys : ℕ → Option Bytes) (nearest depth : ℕ) (q : Bytes) (good : LeavesNearest keys nearest depth q) where
  -- a key departs at the depth at which it leaves the nearest key
  abbrev pub departs_at : Departs keys (take depth q) q
  departs_at =
      let lt : depth < length q = good.longer in
      let lm : depth < length good.nearest_key = good.nearest_longer in
      let e : length (take depth q) ≡ depth = length-take-le depth q (omega arith) in
      record {
        front = Begins-take depth q;
        longer = omega arith;
        alone = λ j l is b. good.alone j l is (subst (λ (n : ℕ). Begins (take depth q ++ get_or q n 0 ∷ []) l) e b);
        nearest = nearest;
        nearest_key = good.nearest_key;
        nearest_is = good.nearest_is;
        nearest_front = subst (λ (t : Bytes). Begins t good.nearest_key) good.along (Begins-take depth good.nearest_key);
        nearest_longer = omega arith;
      }

  -- its next byte there
  pub next_at : next_byte (take depth q) q ≡ get_or q depth 0
  next_at = let lt : depth < length q = good.longer in ap (λ n. get_or q n 0) (length-take-le depth q (omega arith))

  -- and the nearest key's next byte
  pub nearest_next_at : next_byte (take depth q) good.nearest_key ≡ get_or good.nearest_key depth 0
  nearest_next_at = let lt : depth < length q = good.longer in ap (λ n. get_or good.nearest_key n 0) (length-take-le depth q (omega arith))

  -- if no key is a prefix of another, none is related to such a key
  pub leaving_unrelated : ((i j : ℕ) (k l : Bytes) → keys i ≡ Some k → keys j ≡ Some l → i ≢ j → Begins k l → ⊥) → (j : ℕ) (k : Bytes) → keys j ≡ Some k → related k q ≡ false
  leaving_unrelated apart j k e = false_from_ne_true (related k q) (λ rel.
      let d = departs_at in
      let t = take depth q in
      elim (related_cases k q rel) [
        | inl b ↦ elim (cases_lt (length t) (length k)) [
          | inl far ↦ d.alone j k e (Begins-past t k q d.front b far)
          | inr near ↦
              let km : Begins k d.nearest_key = Begins-trans k t d.nearest_key (Begins-linear k t q b d.front near) d.nearest_front in
              elim (eqb_tells j d.nearest) [
                | inl same ↦
                    let a : keys d.nearest ≡ Some k = ap keys (sym same.1) ∙ e in
                    let z : keys d.nearest ≡ Some d.nearest_key = d.nearest_is in
                    let k_is : k ≡ d.nearest_key = cc in
                    let l : length k ≡ length d.nearest_key = ap (λ (k : Bytes). length k) k_is in
                    let longer : length t < length d.nearest_key = d.nearest_longer in
                    omega arith
                | inr off ↦ apart j d.nearest k d.nearest_key e d.nearest_is off.1 km
              ]
        ]
        | inr b ↦ d.alone j k e (Begins-trans (t ++ next_byte t q ∷ []) q k (Begins-more t q d.front d.longer) b)
      ])
