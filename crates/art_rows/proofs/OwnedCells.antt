-- Rows have cells of their own, and still have them after a change.
use Rattle.std.proofs.Common.{◌≡◌, ◌≢◌, ℕ, ◌+◌, ◌-◌, ◌*◌, ◌<◌, ◌≤◌, List, length, take, get_or, set, sym, ap, ◌∙◌, true, inl, inr, arith}
use Rattle.std.proofs.lemmas.Bool.{cases_eq, cases_lt}
use Rattle.std.proofs.lemmas.List.{get_or-take, ext_get_or, length-set, get_or-set_same, get_or-set_other}
use Rattle.std.proofs.lemmas.List.FromFn.{length-range_with_len, get_or-range_with_len}
use Rattle.std.specs.List.{range_with_len}
use Rattle.art_slots.specs.Words.{block_at, times}
use Rattle.art_slots.proofs.BlocksOf.{at_block, length-block, block-set-same, block-set-other, block-take}
use Rattle.art_rows.specs.Rows.{among}
use Rattle.art_rows.specs.Cells.{IsOwned, HaveCells}
use Rattle.art_rows.proofs.Blocks.{next_there, times-among, times-take, times-range, times-range-outside, replaced}

-- ---- the cell at an index

module _ {cells owners : List ℕ} {ready : ℕ} (h : HaveCells cells owners ready) where
  -- the block of a row is within the numbers
  pub own_long : (r : ℕ) → r < ready → 64 * r + 64 ≤ length cells
  own_long r l = omega (arith, h.long)

  -- the number at an index of a row is a number of the row
  pub own_there : (r k : ℕ) → r < ready → k < 64 → 0 < times (block_at cells r) (get_or cells (64 * r + k) 0)
  own_there r k l lt =
      let b = length-block cells r (own_long r l) in
      let t = next_there (block_at cells r) k 0 (omega arith) in
      rw (at_block cells r k lt) at t

  -- it is owned by the row
  pub own_at : (r k : ℕ) → r < ready → k < 64 → IsOwned cells owners ready r (get_or cells (64 * r + k) 0)
  own_at r k l lt = h.own r (get_or cells (64 * r + k) 0) l (own_there r k l lt)

  -- a number among the first of a row is owned by the row
  pub own_among : (r count n : ℕ) → r < ready → among (take count (block_at cells r)) n ≡ true → IsOwned cells owners ready r n
  own_among r count n l a =
      let p = times-among (take count (block_at cells r)) n a in
      let t = times-take (block_at cells r) count n in
      h.own r n l (omega arith)

  -- a row has no number twice
  pub own_once : (r : ℕ) → r < ready → (n : ℕ) → times (block_at cells r) n ≤ 1
  own_once r l n = elim (cases_eq (times (block_at cells r) n) 0) [
    | inl e ↦ omega arith
    | inr e ↦ (h.own r n l (omega arith)).once
  ]

-- ---- after a change

-- numbers were moved within the block of a row
pub own_moved : (cells cells' owners : List ℕ) (ready row : ℕ) → HaveCells cells owners ready → length cells' ≡ length cells → ((n : ℕ) → times (block_at cells' row) n ≡ times (block_at cells row) n) → ((j : ℕ) → j ≢ row → block_at cells' j ≡ block_at cells j) → HaveCells cells' owners ready
own_moved cells cells' owners ready row h len same others = record {
  long = omega (arith, h.long);
  wide = h.wide;
  own = λ r n l t.
      let e = each r n in
      let o = h.own r n l (omega arith) in
      record { once = omega (arith, o.once); below = o.below; owner = o.owner };
}
  where
    each : (r n : ℕ) → times (block_at cells' r) n ≡ times (block_at cells r) n
    each r n = elim (cases_eq r row) [
      | inl e ↦ rw e (same n)
      | inr e ↦ ap (λ ns. times ns n) (others r e)
    ]

-- there are more numbers
pub own_grown : (cells cells' owners owners' : List ℕ) (ready : ℕ) → HaveCells cells owners ready → take (length cells) cells' ≡ cells → length cells ≤ length cells' → take (length owners) owners' ≡ owners → length owners ≤ length owners' → HaveCells cells' owners' ready
own_grown cells cells' owners owners' ready h same more same' more' = record {
  long = omega (arith, h.long);
  wide = omega (arith, h.wide);
  own = λ r n l t.
      let e : block_at cells' r ≡ block_at cells r = block-take cells cells' r (own_long h r l) same in
      let o = h.own r n l (rw e at t) in
      let w : n < length owners = omega (arith, h.wide, o.below) in
      let g : get_or owners' n 0 ≡ get_or owners n 0 = sym (get_or-take (length owners) owners' n 0 w) ∙ ap (λ ns. get_or ns n 0) same' in
      record { once = rw e o.once; below = o.below; owner = g ∙ o.owner };
}

-- one more row has cells
pub own_numbered : (cells cells' owners owners' : List ℕ) (row : ℕ) → HaveCells cells owners row → 64 * row + 64 ≤ length cells' → 64 * row + 64 ≤ length owners' → ((i : ℕ) → i < 64 → get_or (block_at cells' row) i 0 ≡ 64 * row + i) → ((j : ℕ) → j ≢ row → block_at cells' j ≡ block_at cells j) → ((i : ℕ) → i < 64 → get_or owners' (64 * row + i) 0 ≡ row) → ((n : ℕ) → n < 64 * row → get_or owners' n 0 ≡ get_or owners n 0) → HaveCells cells' owners' (row + 1)
own_numbered cells cells' owners owners' row h long wide here others owner owners_same = record {
  long = omega arith;
  wide = omega arith;
  own = λ r n l t. elim (cases_eq r row) [
    | inl e ↦ first r n e (rw e at t)
    | inr e ↦
        let b : block_at cells' r ≡ block_at cells r = others r e in
        let o = h.own r n (omega arith) (rw b at t) in
        record { once = rw b o.once; below = omega (arith, o.below); owner = owners_same n o.below ∙ o.owner }
  ];
}
  where
    cells_are : block_at cells' row ≡ range_with_len (64 * row) 64
    cells_are =
        let l = length-block cells' row long in
        ext_get_or 0 (block_at cells' row) (range_with_len (64 * row) 64) (l ∙ sym (length-range_with_len (64 * row) 64)) (λ i lt. (let b : i < 64 = omega arith in here i b ∙ sym (get_or-range_with_len (64 * row) 64 i 0 b)))

    first : (r n : ℕ) → r ≡ row → 0 < times (block_at cells' row) n → IsOwned cells' owners' (row + 1) r n
    first r n e t =
        let u : 0 < times (range_with_len (64 * row) 64) n = rw cells_are at t in
        let low : 64 * row ≤ n = elim (cases_lt n (64 * row)) [
          | inl lt ↦ absurd (let z = times-range-outside (64 * row) 64 n (inl lt) in omega arith)
          | inr le ↦ le
        ] in
        let high : n < 64 * row + 64 = elim (cases_lt n (64 * row + 64)) [
          | inl lt ↦ lt
          | inr le ↦ absurd (let z = times-range-outside (64 * row) 64 n (inr le) in omega arith)
        ] in
        let at : 64 * row + (n - 64 * row) ≡ n = omega arith in
        let f : get_or owners' n 0 ≡ row = rw at at (owner (n - 64 * row) (omega arith)) in
        let o : times (block_at cells' row) n ≤ 1 = rw cells_are (times-range (64 * row) 64 n) in
        record { once = rw e o; below = omega arith; owner = f ∙ sym e }

-- a number of a row is exchanged for a number of another row
module _ (cells owners : List ℕ) (ready row new i k : ℕ) (h : HaveCells cells owners ready) (rl : row < ready) (nl : new < ready) (ne : row ≢ new) (il : i < 64) (kl : k < 64) (moves other : ℕ) (em : moves ≡ get_or cells (64 * row + i) 0) (eo : other ≡ get_or cells (64 * new + k) 0) where
  -- the numbers after the exchange
  abbrev pub exchanged : List ℕ
  exchanged = set (set cells (64 * row + i) other) (64 * new + k) moves

  -- the owners after the exchange
  abbrev pub exchanged_owners : List ℕ
  exchanged_owners = set (set owners moves new) other row

  -- the blocks after the exchange
  pub exchanged-row : block_at exchanged row ≡ set (block_at cells row) i other
  exchanged-row = block-set-other (set cells (64 * row + i) other) new row k moves kl ne ∙ block-set-same cells row i other il

  pub exchanged-new : block_at exchanged new ≡ set (block_at cells new) k moves
  exchanged-new = block-set-same (set cells (64 * row + i) other) new k moves kl ∙ ap (λ ns. set ns k moves) (block-set-other cells row new i other il (λ e. ne (sym e)))

  pub exchanged-rows : (j : ℕ) → j ≢ row → j ≢ new → block_at exchanged j ≡ block_at cells j
  exchanged-rows j a b = block-set-other (set cells (64 * row + i) other) new j k moves kl b ∙ block-set-other cells row j i other il a

  -- the two numbers are owned by the two rows, so they differ
  moves_owned : IsOwned cells owners ready row moves
  moves_owned = rw em (own_at h row i rl il)

  other_owned : IsOwned cells owners ready new other
  other_owned = rw eo (own_at h new k nl kl)

  apart : moves ≢ other
  apart e = ne (sym moves_owned.owner ∙ ap (λ n. get_or owners n 0) e ∙ other_owned.owner)

  -- no other row has a number
  none : (r q n : ℕ) → r < ready → r ≢ q → get_or owners n 0 ≡ q → times (block_at cells r) n ≡ 0
  none r q n l d o = elim (cases_eq (times (block_at cells r) n) 0) [
    | inl e ↦ e
    | inr e ↦ absurd (d (sym (h.own r n l (omega arith)).owner ∙ o))
  ]

  long_block : (r : ℕ) → r < ready → length (block_at cells r) ≡ 64
  long_block r l = length-block cells r (own_long h r l)

  -- the owners of other numbers are unchanged, and those of the two are exchanged
  owner_kept : (n : ℕ) → n ≢ moves → n ≢ other → get_or exchanged_owners n 0 ≡ get_or owners n 0
  owner_kept n a b = get_or-set_other (set owners moves new) other n row 0 b ∙ get_or-set_other owners moves n new 0 a

  owner_other : get_or exchanged_owners other 0 ≡ row
  owner_other =
      let l : length (set owners moves new) ≡ length owners = length-set owners moves new in
      get_or-set_same (set owners moves new) other row 0 (omega (arith, other_owned.below, h.wide))

  owner_moves : get_or exchanged_owners moves 0 ≡ new
  owner_moves = get_or-set_other (set owners moves new) other moves row 0 apart ∙ get_or-set_same owners moves new 0 (omega (arith, moves_owned.below, h.wide))

  -- each number of each row is owned by its row
  in_row : (n : ℕ) → 0 < times (block_at exchanged row) n → IsOwned exchanged exchanged_owners ready row n
  in_row n t =
      let b = long_block row rl in
      let p = replaced (block_at cells row) i moves other n (omega arith) (at_block cells row i il ∙ sym em) apart (none row new other rl ne other_owned.owner) (own_once h row rl) (rw exchanged-row at t) in
      let o : times (block_at exchanged row) n ≤ 1 = rw exchanged-row p.0 in
      elim p.1.kept [
        | inl e ↦ record { once = o; below = rw e other_owned.below; owner = ap (λ m. get_or exchanged_owners m 0) e ∙ owner_other }
        | inr e ↦ (let q = h.own row n rl e.1 in record { once = o; below = q.below; owner = owner_kept n p.1.other e.0 ∙ q.owner })
      ]

  in_new : (n : ℕ) → 0 < times (block_at exchanged new) n → IsOwned exchanged exchanged_owners ready new n
  in_new n t =
      let b = long_block new nl in
      let p = replaced (block_at cells new) k other moves n (omega arith) (at_block cells new k kl ∙ sym eo) (λ e. apart (sym e)) (none new row moves nl (λ e. ne (sym e)) moves_owned.owner) (own_once h new nl) (rw exchanged-new at t) in
      let o : times (block_at exchanged new) n ≤ 1 = rw exchanged-new p.0 in
      elim p.1.kept [
        | inl e ↦ record { once = o; below = rw e moves_owned.below; owner = ap (λ m. get_or exchanged_owners m 0) e ∙ owner_moves }
        | inr e ↦ (let q = h.own new n nl e.1 in record { once = o; below = q.below; owner = owner_kept n e.0 p.1.other ∙ q.owner })
      ]

  in_rows : (r n : ℕ) → r < ready → r ≢ row → r ≢ new → 0 < times (block_at exchanged r) n → IsOwned exchanged exchanged_owners ready r n
  in_rows r n l a b t =
      let e = exchanged-rows r a b in
      let q = h.own r n l (rw e at t) in
      let no_moves : n ≢ moves = λ s. a (sym q.owner ∙ ap (λ m. get_or owners m 0) s ∙ moves_owned.owner) in
      let no_other : n ≢ other = λ s. b (sym q.owner ∙ ap (λ m. get_or owners m 0) s ∙ other_owned.owner) in
      record { once = rw e q.once; below = q.below; owner = owner_kept n no_moves no_other ∙ q.owner }

  -- the rows still have cells of their own
  pub own_exchanged : HaveCells exchanged exchanged_owners ready
  own_exchanged =
      let l : length exchanged ≡ length cells = length-set (set cells (64 * row + i) other) (64 * new + k) moves ∙ length-set cells (64 * row + i) other in
      let w : length exchanged_owners ≡ length owners = length-set (set owners moves new) other row ∙ length-set owners moves new in
      record {
        long = omega (arith, h.long);
        wide = omega (arith, h.wide);
        own = λ r n b t. elim (cases_eq r row) [
          | inl e ↦ rw e (in_row n (rw e at t))
          | inr e ↦ elim (cases_eq r new) [
            | inl f ↦ rw f (in_new n (rw f at t))
            | inr f ↦ in_rows r n b e f t
          ]
        ];
      }
