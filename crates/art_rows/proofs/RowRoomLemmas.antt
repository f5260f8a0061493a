-- How the room of rows changes with one number more or less, and how many spare rows are enough.
use Rattle.std.proofs.Common.{◌≡◌, ℕ, zero, suc, ◌+◌, ◌-◌, ◌*◌, ◌<◌, ◌≤◌, List, [], ◌∷◌, ◌++◌, length, map, refl, arith}
use Rattle.std.proofs.lemmas.List.{length-append}
use Rattle.art_rows.specs.Numbers.{Numbered}
use Rattle.art_rows.specs.Rows.{numbers}
use Rattle.art_rows.specs.RowRoom.{excess, cap, last_cap, total_excess, load, turns, row_room, StartsFull, row_end_room}

-- ---- the load of rows, in parts

total-append : (xs ys : List ℕ) → total_excess (xs ++ ys) ≡ total_excess xs + total_excess ys
total-append [] ys = omega arith
total-append (x ∷ xs) ys = (let i = total-append xs ys in omega arith)

-- what the last row adds is not changed by the rows before it
last_cap-tail : (xs ys : List ℕ) (n : ℕ) → last_cap (xs ++ n ∷ ys) ≡ last_cap (n ∷ ys)
last_cap-tail [] ys n = refl
last_cap-tail (x ∷ []) ys n = refl
last_cap-tail (x ∷ z ∷ xs) ys n = last_cap-tail (z ∷ xs) ys n

-- what the last row adds is at most 62
last_cap-most : (ns : List ℕ) → last_cap ns ≤ 62
last_cap-most [] = omega arith
last_cap-most (n ∷ []) = omega arith
last_cap-most (n ∷ m ∷ ns) = last_cap-most (m ∷ ns)

-- if a row adds at most k more, the load is at most k higher
load_step : (xs ys : List ℕ) (m n k : ℕ) → excess m + cap m ≤ excess n + cap n + k → excess m ≤ excess n + k → load (xs ++ m ∷ ys) ≤ load (xs ++ n ∷ ys) + k
load_step [] ys m n k a b = omega arith
load_step (x ∷ xs) [] m n k a b =
    let p = total-append xs (m ∷ []) in
    let q = total-append xs (n ∷ []) in
    let s = last_cap-tail xs [] m in
    let t = last_cap-tail xs [] n in
    omega arith
load_step (x ∷ xs) (y ∷ ys) m n k a b =
    let p = total-append xs (m ∷ y ∷ ys) in
    let q = total-append xs (n ∷ y ∷ ys) in
    let s = last_cap-tail xs (y ∷ ys) m in
    let t = last_cap-tail xs (y ∷ ys) n in
    omega arith

-- with one more number in a row, the load is at most 2 higher
pub load_put : (xs ys : List ℕ) (n : ℕ) → load (xs ++ suc n ∷ ys) ≤ load (xs ++ n ∷ ys) + 2
load_put xs ys n = load_step xs ys (suc n) n 2 (omega arith) (omega arith)

-- with one number less in a row, the load is not higher
pub load_taken : (xs ys : List ℕ) (n : ℕ) → load (xs ++ n ∷ ys) ≤ load (xs ++ suc n ∷ ys)
load_taken xs ys n = (let s = load_step xs ys n (suc n) 0 (omega arith) (omega arith) in omega arith)

-- with a new row of one number after a full last row, the load is at least 62 lower
pub load_ended : (xs : List ℕ) (n : ℕ) → n ≡ 64 → load (xs ++ n ∷ 1 ∷ []) + 62 ≤ load (xs ++ n ∷ [])
load_ended [] n e = omega arith
load_ended (x ∷ xs) n e =
    let p = total-append xs (n ∷ 1 ∷ []) in
    let q = total-append xs (n ∷ []) in
    let s = last_cap-tail xs (1 ∷ []) n in
    let t = last_cap-tail xs [] n in
    omega arith

-- with a new row of one number before a full row, or before none, the load is at least 62 lower
pub load_front : (ys : List ℕ) → StartsFull ys → load (1 ∷ ys) + 62 ≤ load ys
load_front [] s = omega arith
load_front (n ∷ []) s = omega arith
load_front (n ∷ m ∷ ys) s = omega arith

-- with a full row cut in half, the load is at least 64 lower
pub load_cut : (xs ys : List ℕ) (n : ℕ) → n ≡ 64 → load (xs ++ 32 ∷ 32 ∷ ys) + 64 ≤ load (xs ++ n ∷ ys)
load_cut [] [] n e = omega arith
load_cut [] (y ∷ ys) n e = omega arith
load_cut (x ∷ xs) [] n e =
    let p = total-append xs (32 ∷ 32 ∷ []) in
    let q = total-append xs (n ∷ []) in
    let s = last_cap-tail xs (32 ∷ []) 32 in
    let t = last_cap-tail xs [] n in
    omega arith
load_cut (x ∷ xs) (y ∷ ys) n e =
    let p = total-append xs (32 ∷ 32 ∷ y ∷ ys) in
    let q = total-append xs (n ∷ y ∷ ys) in
    let s = last_cap-tail xs (32 ∷ y ∷ ys) 32 in
    let t = last_cap-tail xs (y ∷ ys) n in
    omega arith

-- without a row of one number, the load is at most 64 higher
pub load_gone : (xs ys : List ℕ) → load (xs ++ ys) ≤ load (xs ++ 1 ∷ ys) + 64
load_gone [] [] = omega arith
load_gone [] (y ∷ []) = omega arith
load_gone [] (y ∷ z ∷ ys) = omega arith
load_gone (x ∷ xs) [] =
    let p = total-append xs [] in
    let q = total-append xs (1 ∷ []) in
    let s = last_cap-most (xs ++ []) in
    omega arith
load_gone (x ∷ xs) (y ∷ ys) =
    let p = total-append xs (y ∷ ys) in
    let q = total-append xs (1 ∷ y ∷ ys) in
    let s = last_cap-tail xs ys y in
    let t = last_cap-tail xs (y ∷ ys) 1 in
    omega arith

-- with a full row, the load is at least 64
pub load_full : (xs ys : List ℕ) (n : ℕ) → n ≡ 64 → 64 ≤ load (xs ++ n ∷ ys)
load_full [] ys n e = omega arith
load_full (x ∷ xs) ys n e = (let p = total-append xs (n ∷ ys) in omega arith)

-- with a full first row, or with no row, the load is at least 64
pub load_starts : (ys : List ℕ) → StartsFull ys → 64 ≤ load ys
load_starts [] s = omega arith
load_starts (n ∷ ys) s = omega arith

-- ---- the room

-- if there is room, and the load is at least 64, there is a spare row
pub room_spare : (lens : List ℕ) (spare : ℕ) → 64 ≤ load lens → 0 < row_room lens spare → 0 < spare
room_spare lens zero l h = omega arith
room_spare lens (suc spare) l h = omega arith

-- if the load falls by 62, the use of a spare row takes at most one turn
pub turns_begun : (old new : List ℕ) (spare : ℕ) → load new + 62 ≤ load old → turns old (spare + 1) ≤ turns new spare + 1
turns_begun old new spare l = omega arith

-- a number inserted in a row takes at most one turn
pub turns_put : (xs ys : List ℕ) (n spare : ℕ) → turns (xs ++ n ∷ ys) spare ≤ turns (xs ++ suc n ∷ ys) spare + 1
turns_put xs ys n spare = (let l = load_put xs ys n in omega arith)

-- a row that is cut takes no turn
pub turns_cut : (xs ys : List ℕ) (n spare : ℕ) → n ≡ 64 → turns (xs ++ n ∷ ys) (spare + 1) ≤ turns (xs ++ 32 ∷ 32 ∷ ys) spare
turns_cut xs ys n spare e = (let l = load_cut xs ys n e in omega arith)

-- with at most one turn less and one spare row less, there is room for at most one number less
pub room_less : (old new : List ℕ) (spare less : ℕ) → spare ≤ less + 1 → turns old spare ≤ turns new less + 1 → row_room old spare ≤ row_room new less + 1
room_less old new spare less a b = omega arith

-- a number removed from a row takes nothing from the room
pub room_taken : (xs ys : List ℕ) (n spare : ℕ) → row_room (xs ++ suc n ∷ ys) spare ≤ row_room (xs ++ n ∷ ys) spare
room_taken xs ys n spare = (let l = load_taken xs ys n in omega arith)

-- a row of one number that is removed, and becomes spare, takes nothing from the room
pub room_ended : (xs ys : List ℕ) (spare : ℕ) → row_room (xs ++ 1 ∷ ys) spare ≤ row_room (xs ++ ys) (spare + 1)
room_ended xs ys spare = (let l = load_gone xs ys in omega arith)

-- with more spare rows there is no less room
pub room_more : (lens : List ℕ) (spare more : ℕ) → spare ≤ more → row_room lens spare ≤ row_room lens more
room_more lens spare more h = omega arith

-- ---- how many rows are enough

-- a row counts at most as much as it has numbers
total-numbers : (rows : List (Numbered (List ℕ))) → total_excess (map (λ r. length r.1) rows) ≤ length (numbers rows)
total-numbers [] = omega arith
total-numbers (r ∷ rows) = (let n = length-append r.1 (numbers rows) in let i = total-numbers rows in omega arith)

-- the load is at most 124 more than the count of the numbers
load-numbers : (rows : List (Numbered (List ℕ))) → load (map (λ r. length r.1) rows) ≤ length (numbers rows) + 124
load-numbers [] = omega arith
load-numbers (r ∷ rows) =
    let n = length-append r.1 (numbers rows) in
    let t = total-numbers rows in
    let l = last_cap-most (map (λ r. length r.1) rows) in
    omega arith

-- with enough spare rows there is room for n numbers
pub room_enough : (rows : List (Numbered (List ℕ))) (n spare : ℕ) → 2 * n + length (numbers rows) + 64 ≤ 64 * spare → n ≤ row_room (map (λ r. length r.1) rows) spare
room_enough rows n spare h = (let l = load-numbers rows in omega arith)

-- ---- the room at the end

-- the room at the end is the room of the last row
pub row_end_room-last : (xs : List ℕ) (n : ℕ) → row_end_room (xs ++ n ∷ []) ≡ 64 - n
row_end_room-last [] n = refl
row_end_room-last (x ∷ []) n = refl
row_end_room-last (x ∷ y ∷ xs) n = row_end_room-last (y ∷ xs) n
