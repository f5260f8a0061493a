-- A list of numbers in blocks: a read, a write, another block and a new block, as seen in the list.
use Rattle.std.proofs.Common.{◌≡◌, ◌≢◌, ℕ, zero, suc, ◌+◌, ◌-◌, ◌*◌, ◌/◌, ◌%◌, ◌<◌, ◌≤◌, List, [], ◌∷◌, ◌++◌, length, take, drop, get_or, set, replicate, inl, inr, refl, sym, ap, subst, ◌∙◌, arith, length-append}
use Rattle.std.proofs.Math.Seq.{drop-append-add}
use Rattle.std.proofs.lemmas.Bool.{cases_lt}
use Rattle.std.proofs.lemmas.List.{take_at, drop_all, length-set, get_or-set_same, get_or-set_other, get_or_append_left, get_or-append-add, set-append_left, set-append_right, replicate-append-replicate, length-replicate}
use Rattle.std.proofs.lemmas.List.Elements.{All-head, All-tail, All-append, All-replicate, All-set, All-get_or}
use Rattle.std.proofs.lemmas.List.Concat.{flat_map-append}
use Rattle.std.proofs.lemmas.Nat.{div-add-mod', div_below, mod_below}
use Rattle.art_slots.specs.Words.{block_at}
use Rattle.art_slots.specs.Halves.{joined, IsWhole, AreWhole, AddsZeros}
use Rattle.art_slots.specs.declared.halves.Block.{Block}

-- a block of zeros
abbrev pub zeros : Block
zeros = record { halves = replicate 64 0 }

-- there are 64 numbers for each block
pub length-joined : (blocks : List Block) → AreWhole blocks → length (joined blocks) ≡ length blocks * 64
length-joined [] h = refl
length-joined (b ∷ bs) h =
    omega (arith, length-joined bs (All-tail IsWhole b bs h), length-append b.halves (joined bs), All-head IsWhole b bs h)

-- the number at a place in a block is the number at its index in the list
pub at-joined : (blocks : List Block) → AreWhole blocks → (k j : ℕ) (d : Block) → k < length blocks → j < 64 → get_or (joined blocks) (k * 64 + j) 0 ≡ get_or (get_or blocks k d).halves j 0
at-joined [] h k j d l m = absurd (omega arith)
at-joined (b ∷ bs) h zero j d l m =
    let e : 0 * 64 + j ≡ j = omega arith in
    let n : length b.halves ≡ 64 = All-head IsWhole b bs h in
    rw e (get_or_append_left b.halves (joined bs) 0 j (omega arith))
at-joined (b ∷ bs) h (suc k) j d l m =
    let n : length b.halves ≡ 64 = All-head IsWhole b bs h in
    let e : suc k * 64 + j ≡ length b.halves + (k * 64 + j) = omega arith in
    rw e (get_or-append-add b.halves (joined bs) (k * 64 + j) 0 ∙ at-joined bs (All-tail IsWhole b bs h) k j d (omega arith) m)

-- a write in a block is a write in the list
pub set-joined : (blocks : List Block) → AreWhole blocks → (k j v : ℕ) (d : Block) → k < length blocks → j < 64 → joined (set blocks k (record { halves = set (get_or blocks k d).halves j v })) ≡ set (joined blocks) (k * 64 + j) v
set-joined [] h k j v d l m = absurd (omega arith)
set-joined (b ∷ bs) h zero j v d l m =
    let e : 0 * 64 + j ≡ j = omega arith in
    let n : length b.halves ≡ 64 = All-head IsWhole b bs h in
    rw e (sym (set-append_left b.halves (joined bs) j v (omega arith)))
set-joined (b ∷ bs) h (suc k) j v d l m =
    let n : length b.halves ≡ 64 = All-head IsWhole b bs h in
    let e : suc k * 64 + j - 64 ≡ k * 64 + j = omega arith in
    ap (λ ws. b.halves ++ ws) (set-joined bs (All-tail IsWhole b bs h) k j v d (omega arith) m ∙ ap (λ i. set (joined bs) i v) (sym e))
    ∙ sym (set-append_right b.halves (joined bs) 64 (suc k * 64 + j) v n (omega arith))

-- the numbers of blocks of zeros
zeros-joined : (n : ℕ) → joined (replicate n zeros) ≡ replicate (n * 64) 0
zeros-joined zero = refl
zeros-joined (suc n) =
    let e : suc n * 64 ≡ 64 + n * 64 = omega arith in
    rw (e, zeros-joined n) (replicate-append-replicate 64 (n * 64) 0)

module _ (blocks : List Block) (whole : AreWhole blocks) (i : ℕ) (within : i < length (joined blocks)) where
  -- the block of an index is one of the blocks
  pub block_below : i / 64 < length blocks
  block_below = div_below i 64 (length blocks) (omega arith) (omega (arith, length-joined blocks whole))

  -- the number at an index
  pub at-index : (b : Block) → b ≡ get_or blocks (i / 64) b → get_or b.halves (i % 64) 0 ≡ get_or (joined blocks) i 0
  at-index b e =
      ap (λ (c : Block). get_or c.halves (i % 64) 0) e ∙ sym (at-joined blocks whole (i / 64) (i % 64) b block_below (mod_below i 64 (omega arith)))
      ∙ ap (λ k. get_or (joined blocks) k 0) (div-add-mod' i 64)

  -- the list after the number at an index was written
  pub set-index : (v : ℕ) (b : Block) → b ≡ get_or blocks (i / 64) b → joined (set blocks (i / 64) (record { halves = set b.halves (i % 64) v })) ≡ set (joined blocks) i v
  set-index v b e =
      ap (λ (c : Block). joined (set blocks (i / 64) (record { halves = set c.halves (i % 64) v }))) e
      ∙ set-joined blocks whole (i / 64) (i % 64) v b block_below (mod_below i 64 (omega arith))
      ∙ ap (λ k. set (joined blocks) k v) (div-add-mod' i 64)

-- the numbers of a block, in the list
block-joined : (blocks : List Block) → AreWhole blocks → (k : ℕ) (d : Block) → k < length blocks → block_at (joined blocks) k ≡ (get_or blocks k d).halves
block-joined [] h k d l = absurd (omega arith)
block-joined (b ∷ bs) h zero d l = take_at b.halves (joined bs) 64 (All-head IsWhole b bs h)
block-joined (b ∷ bs) h (suc k) d l =
    let n : length b.halves ≡ 64 = All-head IsWhole b bs h in
    let e : 64 * suc k ≡ length b.halves + 64 * k = omega arith in
    ap (λ m. take 64 (drop m (b.halves ++ joined bs))) e ∙ ap (take 64) (drop-append-add b.halves (joined bs) (64 * k))
    ∙ block-joined bs (All-tail IsWhole b bs h) k d (omega arith)

-- past its end a list has no block
pub block-past : (ns : List ℕ) (k : ℕ) → length ns ≤ 64 * k → block_at ns k ≡ []
block-past ns k le = ap (take 64) (drop_all (64 * k) ns le)

module _ (blocks : List Block) (whole : AreWhole blocks) (k : ℕ) (within : 64 * k + 64 ≤ length (joined blocks)) where
  -- a block of the list is one of the blocks
  pub block_within : k < length blocks
  block_within = omega (arith, length-joined blocks whole)

  -- its numbers
  pub block-at : (b : Block) → b ≡ get_or blocks k b → block_at (joined blocks) k ≡ b.halves
  block-at b e = block-joined blocks whole k b block_within ∙ ap (λ (c : Block). c.halves) (sym e)

  -- it is whole
  pub size-at : (b : Block) → b ≡ get_or blocks k b → IsWhole b
  size-at b e = subst IsWhole (sym e) (All-get_or IsWhole blocks k b block_within whole)

  module _ (b : Block) (size : IsWhole b) where
    whole-set : AreWhole (set blocks k b)
    whole-set = All-set IsWhole blocks k b size whole

    -- another block has its numbers at its index
    pub block-put-same : block_at (joined (set blocks k b)) k ≡ b.halves
    block-put-same =
        let l : k < length (set blocks k b) = omega (arith, block_within, length-set blocks k b) in
        block-joined (set blocks k b) whole-set k b l ∙ ap (λ (c : Block). c.halves) (get_or-set_same blocks k b b block_within)

    -- the list is as long with another block
    pub length-put : length (joined (set blocks k b)) ≡ length (joined blocks)
    length-put = omega (arith, length-joined blocks whole, length-joined (set blocks k b) whole-set, length-set blocks k b)

    -- the blocks at other indices are unchanged
    pub block-put-other : (j : ℕ) → j ≢ k → block_at (joined (set blocks k b)) j ≡ block_at (joined blocks) j
    block-put-other j ne =
        elim (cases_lt j (length blocks)) [
          | inl l ↦
              let m : j < length (set blocks k b) = omega (arith, length-set blocks k b) in
              block-joined (set blocks k b) whole-set j b m ∙ ap (λ (c : Block). c.halves) (get_or-set_other blocks k j b b ne)
              ∙ sym (block-joined blocks whole j b l)
          | inr l ↦
              let n : length (joined blocks) ≤ 64 * j = omega (arith, length-joined blocks whole) in
              let m : length (joined (set blocks k b)) ≤ 64 * j = omega (arith, length-put) in
              block-past (joined (set blocks k b)) j m ∙ sym (block-past (joined blocks) j n)
        ]

module _ (old new : List Block) (count : ℕ) (a : AddsZeros old new count) where
  -- the blocks are whole after blocks of zeros were added
  pub whole-more : AreWhole old → AreWhole new
  whole-more h = subst AreWhole (sym a.added) (All-append IsWhole old (replicate (length new - length old) zeros) h (All-replicate IsWhole (length new - length old) zeros refl))

  -- zeros are added to the list
  pub joined-more : joined new ≡ joined old ++ replicate ((length new - length old) * 64) 0
  joined-more =
      ap joined a.added ∙ flat_map-append (λ (b : Block). b.halves) old (replicate (length new - length old) zeros)
      ∙ ap (λ ws. joined old ++ ws) (zeros-joined (length new - length old))

  -- its new numbers are zeros
  pub zeros-more : joined new ≡ joined old ++ replicate (length (joined new) - length (joined old)) 0
  zeros-more =
      let n : ℕ = (length new - length old) * 64 in
      let e : length (joined new) - length (joined old) ≡ n =
      omega (arith, ap length joined-more, length-append (joined old) (replicate n 0), length-replicate {A = ℕ} n 0) in
      joined-more ∙ ap (λ m. joined old ++ replicate m 0) (sym e)
