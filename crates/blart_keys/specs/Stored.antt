-- What a map has at some bytes, as its users cite it. `pair_at`, `pair_at_front` and `overlaps`
-- stay closed in their proofs.
use Rattle.std.specs.Prelude.{◌≡◌, ◌≢◌, ℕ, ◌^◌, ◌<◌, Bool, true, false, List, length, map, Option, None, Some, option_map, is_some, bytes_eq, if◌then◌else◌}
use denote.Ref.{Bor}
use Rattle.blart_keys.specs.declared.calls.TryInsertError.{TryInsertError}
use Rattle.blart_keys.specs.declared.calls.TryInsertError.TheVariants.{Prefix, Memory}
use Rattle.blart_keys.specs.Bytes.{begins, related}
use Rattle.blart_keys.specs.Content.{at, conflict, front_of}

-- the key of the old pair, or this one if there was no pair
abbrev pub kept_key : {K V : Type 0} → Option (K × V) → K → K
kept_key None key = key
kept_key (Some old) key = old.0

-- the pair, with the key of the old pair if there was one
abbrev pub kept_pair : {K V : Type 0} → Option (K × V) → K × V → K × V
kept_pair old pair = (kept_key old pair.0, pair.1)

-- the old item, or this one if there was none
abbrev pub kept_item : {X : Type 0} → Option X → X → X
kept_item None x = x
kept_item (Some old) x = old

module _ {K V : Type 0} (kb : K → List ℕ) where
  -- the bytes of a pair are its key's
  abbrev pub bytes : K × V → List ℕ
  bytes pair = kb pair.0

  -- the pair whose key has the bytes q
  unfoldable pub pair_at : List (K × V) → List ℕ → Option (K × V)
  pair_at S q = at bytes S q

  -- the pair whose key's bytes are a prefix of q
  unfoldable pub pair_at_front : List (K × V) → List ℕ → Option (K × V)
  pair_at_front S q = front_of bytes S q

  -- some key is related to q and has other bytes
  unfoldable pub overlaps : List (K × V) → List ℕ → Bool
  overlaps S q = conflict bytes S q

  -- the value of the key with the bytes q
  abbrev pub value_at : List (K × V) → List ℕ → Option V
  value_at S q = option_map (λ p. p.1) (pair_at S q)

  -- the value of the key whose bytes are a prefix of q
  abbrev pub value_at_front : List (K × V) → List ℕ → Option V
  value_at_front S q = option_map (λ p. p.1) (pair_at_front S q)

  -- some key has the bytes q
  abbrev pub has : List (K × V) → List ℕ → Bool
  has S q = is_some (pair_at S q)

  -- what an insertion of the pair stores: its value, under the stored key if its bytes are stored
  abbrev pub kept : List (K × V) → K × V → K × V
  kept S pair = kept_pair (pair_at S (kb pair.0)) pair

  -- S' has w at the bytes q, and at all other bytes what S has
  abbrev pub Updates : List (K × V) → List (K × V) → List ℕ → Option (K × V) → Type 0
  Updates S S' q w = (pair_at S' q ≡ w) × ((r : List ℕ) → r ≢ q → pair_at S' r ≡ pair_at S r)

  -- S has nothing
  abbrev pub HasNothing : List (K × V) → Type 0
  HasNothing S = (q : List ℕ) → pair_at S q ≡ None

  -- the pair p of S is removed, and no other
  abbrev pub TakesPair : List (K × V) → K × V → List (K × V) → Type 0
  TakesPair S p S' = (pair_at S (kb p.0) ≡ Some p) × Updates S S' (kb p.0) None

  -- S' has p, nothing else related to it, and what S has that is not related to it
  pub record Overwrites (S : List (K × V)) (p : K × V) (S' : List (K × V)) : Type 0 where
    pub there : pair_at S' (kb p.0) ≡ Some p
    pub gone : (r : List ℕ) → related r (kb p.0) ≡ true → r ≢ kb p.0 → pair_at S' r ≡ None
    pub others : (r : List ℕ) → related r (kb p.0) ≡ false → pair_at S' r ≡ pair_at S r

  -- the pairs, with this value at the bytes q
  abbrev pub written_at : List (K × V) → List ℕ → V → List (K × V)
  written_at S q v = map (λ p. if bytes_eq (kb p.0) q then (p.0, v) else p) S

  -- the pairs, with this value at the bytes that are a prefix of q
  abbrev pub written_at_front : List (K × V) → List ℕ → V → List (K × V)
  written_at_front S q v = map (λ p. if begins (kb p.0) q then (p.0, v) else p) S

  -- S' is S with the value v at the bytes q, if they are stored
  abbrev pub WritesAt : List (K × V) → List ℕ → V → List (K × V) → Type 0
  WritesAt S q v S' = Updates S S' q (option_map (λ p. (p.0, v)) (pair_at S q)) × (length S' ≡ length S)

  -- S' is S with the value v at the bytes that are a prefix of q
  pub record WritesAtFront (S : List (K × V)) (q : List ℕ) (v : V) (S' : List (K × V)) : Type 0 where
    pub front : pair_at_front S' q ≡ option_map (λ p. (p.0, v)) (pair_at_front S q)
    pub there : (r : List ℕ) → begins r q ≡ true → pair_at S' r ≡ option_map (λ p. (p.0, v)) (pair_at S r)
    pub others : (r : List ℕ) → begins r q ≡ false → pair_at S' r ≡ pair_at S r
    pub len : length S' ≡ length S

  -- an insertion at q returns this error: q conflicts, or it fails to allocate and q is new
  abbrev pub Refuses : List (K × V) → List ℕ → TryInsertError → Type 0
  Refuses S q (Prefix e) = overlaps S q ≡ true
  Refuses S q (Memory e) = (overlaps S q ≡ false) × (has S q ≡ false)

-- the pair to which two references lead
abbrev pub shown : {K V : Type 0} → Option (Bor K × Bor V) → Option (K × V)
shown pair = option_map (λ p. (p.0.now, p.1.now)) pair

-- a `usize` can count the items
abbrev pub CanCount : {X : Type 0} → List X → Type 0
CanCount S = length S < 2 ^ 64
