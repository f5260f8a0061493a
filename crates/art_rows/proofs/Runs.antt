-- What holds of the runs of numbers after a number and before it.
use Rattle.std.proofs.Common.{◌≡◌, ℕ, zero, suc, ◌+◌, ◌-◌, ◌<◌, ◌≤◌, List, [], ◌∷◌, ◌++◌, length, map, take, drop, refl, sym, ap, subst, ◌∙◌, Option, Some, None, arith}
use Rattle.std.proofs.lemmas.List.{length-take-le, length-drop, length_push}
use Rattle.std.specs.Prelude.{option_map, IfSome}
use Rattle.art_rows.specs.Numbers.{Numbered, leaf_in, Has, number_after, number_before, AreDistinct}
use Rattle.art_rows.specs.Rows.{index_in, nth, numbers, position_at, RunsAfter, RunsBefore, IsLookedUp, StandsAfter, start_of, nothing_follows}
use Rattle.art_rows.specs.Filing.{Files}
use Rattle.art_rows.specs.declared.following.Following.{Following}
use Rattle.art_rows.specs.declared.leaves.Leaf.{Leaf}
use Rattle.art_rows.specs.declared.row.Position.{Position}
use Rattle.art_rows.proofs.FilingLemmas.{number_there, same_ids, has_row_at}
use Rattle.art_rows.proofs.RowsLemmas.{nth-append_left, nth-append_right, nth-within, number_after-nth, number_before-nth, index_in-nth, standing, standing-numbers, standing-end}

-- the item at index j after the first k is the item at index k + j
nth-drop : (ns : List ℕ) (k j : ℕ) → nth (drop k ns) j ≡ nth ns (k + j)
nth-drop ns zero j = (let e : 0 + j ≡ j = omega arith in sym (ap (nth ns) e))
nth-drop [] (suc k) j = refl
nth-drop (n ∷ ns) (suc k) j = (let e : suc k + j ≡ suc (k + j) = omega arith in nth-drop ns k j ∙ sym (ap (nth (n ∷ ns)) e))

-- an item of the first k items is the item at the same index in the list
nth-take : (ns : List ℕ) (k j n : ℕ) → nth (take k ns) j ≡ Some n → nth ns j ≡ Some n
nth-take ns zero j n e = absurd cc
nth-take [] (suc k) j n e = absurd cc
nth-take (m ∷ ns) (suc k) zero n e = e
nth-take (m ∷ ns) (suc k) (suc j) n e = nth-take ns k j n e

-- a position that is the start of a row, if there is one
told : (o : Option ℕ) (q : Option Position) → q ≡ option_map start_of o → IfSome o (λ r. q ≡ Some (start_of r))
told None q e = tt
told (Some r) q e = e

module _ {X : Type 0} (ps : List (Numbered X)) (distinct : AreDistinct ps) (i n : ℕ) (has : Has ps i) (rest : List ℕ) where
  -- the first of a run is the next number, and the others are a run after that
  after_step : RunsAfter ps i (n ∷ rest) → (number_after ps i ≡ Some n) × RunsAfter ps n rest
  after_step r =
      let ns : List ℕ = map (λ p. p.0) ps in
      let k : ℕ = index_in ns i in
      let a : k + 1 + 0 ≡ k + 1 = omega arith in
      let b : nth ns (k + 1) ≡ Some n = sym (ap (nth ns) a) ∙ r 0 n refl in
      let c : index_in ns n ≡ k + 1 = index_in-nth ps (k + 1) n distinct b in (
        number_after-nth ps i has ∙ b,
        λ j m e. let d : index_in ns n + 1 + j ≡ k + 1 + suc j = omega arith in ap (nth ns) d ∙ r (suc j) m e,
      )

  -- the index of the next number is the next index
  pub after_index : number_after ps i ≡ Some n → index_in (map (λ p. p.0) ps) n ≡ index_in (map (λ p. p.0) ps) i + 1
  after_index e = index_in-nth ps (index_in (map (λ p. p.0) ps) i + 1) n distinct (sym (number_after-nth ps i has) ∙ e)

  -- the same for all that follows
  pub following_step : (rows : List (Numbered (List ℕ))) (a : Following) → a.run ≡ n ∷ rest → StandsAfter ps rows i a → (number_after ps i ≡ Some n) × StandsAfter ps rows n (record a { run = rest })
  following_step rows a cut s =
      let r = after_step (subst (RunsAfter ps i) cut s.run) in
      let c : index_in (map (λ p. p.0) ps) n ≡ index_in (map (λ p. p.0) ps) i + 1 = after_index r.0 in
      let l : length a.run ≡ suc (length rest) = ap length cut in
      let e : index_in (map (λ p. p.0) ps) n + 1 + length rest ≡ index_in (map (λ p. p.0) ps) i + 1 + length a.run = omega arith in (
        r.0,
        record {
          run = r.1;
          row = subst (λ k. IfSome a.row (λ r. position_at rows k ≡ Some (start_of r))) (sym e) s.row;
          ahead = s.ahead;
        },
      )

  -- the last of a run is the number before, and the others are a run before that
  pub before_step : RunsBefore ps i (rest ++ n ∷ []) → (number_before ps i ≡ Some n) × RunsBefore ps n rest
  before_step r =
      let ns : List ℕ = map (λ p. p.0) ps in
      let k : ℕ = index_in ns i in
      let l : length (rest ++ n ∷ []) ≡ length rest + 1 = length_push rest n in
      let w : length (rest ++ n ∷ []) ≤ k = r.0 in
      let z : k ≡ suc (k - 1) = omega arith in
      let a : k + (length rest + 0) - length (rest ++ n ∷ []) ≡ k - 1 = omega arith in
      let b : nth ns (k - 1) ≡ Some n = sym (ap (nth ns) a) ∙ r.1 (length rest + 0) n (nth-append_right rest (n ∷ []) 0) in
      let c : index_in ns n ≡ k - 1 = index_in-nth ps (k - 1) n distinct b in (
        number_before-nth None ps i (k - 1) has z ∙ b,
        (
          omega arith,
          λ j m e.
              let g : j < length rest = nth-within rest j m e in
              let d : index_in ns n + j - length rest ≡ k + j - length (rest ++ n ∷ []) = omega arith in
              ap (nth ns) d ∙ r.1 j m (nth-append_left rest (n ∷ []) j g ∙ e),
        ),
      )

module _ {K V : Type 0} {leaves : ℕ → Option (Leaf K V)} {rows : List (Numbered (List ℕ))} {count : ℕ} {ps : List (Numbered (K × V))} (f : Files leaves rows count ps) (k : ℕ) (p : Position) (at : position_at rows k ≡ Some p) (ids : List ℕ) (is : leaf_in rows p.row ≡ Some ids) (n : ℕ) (there : nth ids p.index ≡ Some n) where
  index_is : index_in (map (λ q. q.0) ps) n ≡ k
  index_is = index_in-nth ps k n f.distinct (number_there f k p at ids is ∙ there)

  -- the numbers of a row are numbers of the list
  nth_of_row : (j m b : ℕ) → b + p.index ≡ k + j → nth ids j ≡ Some m → nth (map (λ q. q.0) ps) b ≡ Some m
  nth_of_row j m b e h =
      let s = standing rows k p at in
      let same : s.ids ≡ ids = same_ids f k p at ids is in
      let w : j < length ids = nth-within ids j m h in
      let x = s.index in
      let c : b ≡ length (numbers s.before) + j = omega arith in
      let d : j < length s.ids = rw same w in
      rw (f.joined, standing-numbers rows k p s, c) (nth-append_right (numbers s.before) (s.ids ++ numbers s.after) j ∙ nth-append_left s.ids (numbers s.after) j d ∙ ap (λ l. nth l j) same ∙ h)

  -- the numbers after a number in its row are a run after it
  pub after_in_row : RunsAfter ps n (drop (p.index + 1) ids)
  after_in_row j m e =
      let i = index_is in
      nth_of_row (p.index + 1 + j) m (index_in (map (λ q. q.0) ps) n + 1 + j) (omega arith) (sym (nth-drop ids (p.index + 1) j) ∙ e)

  -- the next row, if there is one, starts after that run
  row_after_run : position_at rows (index_in (map (λ q. q.0) ps) n + 1 + length (drop (p.index + 1) ids)) ≡ option_map start_of (number_after rows p.row)
  row_after_run =
      let i = index_is in
      let s = standing rows k p at in
      let same : s.ids ≡ ids = same_ids f k p at ids is in
      let w : p.index < length ids = nth-within ids p.index n there in
      let l : length (drop (p.index + 1) ids) ≡ length ids - (p.index + 1) = length-drop (p.index + 1) ids in
      let b : index_in (map (λ q. q.0) ps) n + 1 + length (drop (p.index + 1) ids) + p.index ≡ k + length s.ids = rw same (omega arith) in
      standing-end rows k p s f.apart f.filled _ b

  -- what was looked up in the row and after it follows the number
  pub following_there : (b : Following) → b.run ≡ drop (p.index + 1) ids → b.row ≡ number_after rows p.row → IfSome b.row (IsLookedUp rows b.first b.rest) → StandsAfter ps rows n b
  following_there b run row ahead = record {
    ahead = ahead;
    run = subst (RunsAfter ps n) (sym run) after_in_row;
    row = told b.row _ (ap (λ l. position_at rows (index_in (map (λ q. q.0) ps) n + 1 + length l)) run ∙ row_after_run ∙ ap (option_map start_of) (sym row));
  }

  -- the number at the position is the next number
  pub next_there : (i : ℕ) → Has ps i → k ≡ index_in (map (λ q. q.0) ps) i + 1 → number_after ps i ≡ Some n
  next_there i has e = number_after-nth ps i has ∙ ap (nth (map (λ q. q.0) ps)) (sym e) ∙ number_there f k p at ids is ∙ there

  -- the numbers before a number in its row are a run before it
  pub before_in_row : RunsBefore ps n (take p.index ids)
  before_in_row =
      let i = index_is in
      let w : p.index < length ids = nth-within ids p.index n there in
      let l : length (take p.index ids) ≡ p.index = length-take-le p.index ids (omega arith) in
      let s = (standing rows k p at).index in (
        omega arith,
        λ j m e. nth_of_row j m (index_in (map (λ q. q.0) ps) n + j - length (take p.index ids)) (omega arith) (nth-take ids p.index j m e),
      )

-- the row that is named is there
pub next_row_there : {K V : Type 0} {leaves : ℕ → Option (Leaf K V)} {rows : List (Numbered (List ℕ))} {count : ℕ} {ps : List (Numbered (K × V))} (f : Files leaves rows count ps) (k : ℕ) (o : Option ℕ) → IfSome o (λ r. position_at rows k ≡ Some (start_of r)) → IfSome o (Has rows)
next_row_there f k None at = tt
next_row_there f k (Some r) at = has_row_at f k (start_of r) at

-- if a run is empty, the first number of the row that is named comes next, and the others follow it
pub row_entered : {K V : Type 0} {leaves : ℕ → Option (Leaf K V)} {rows : List (Numbered (List ℕ))} {count : ℕ} {ps : List (Numbered (K × V))} (f : Files leaves rows count ps) (i : ℕ) → Has ps i → (a : Following) → StandsAfter ps rows i a → a.run ≡ [] → (r n : ℕ) → a.row ≡ Some r → (b : Following) → leaf_in rows r ≡ Some (n ∷ b.run) → b.row ≡ number_after rows r → IfSome b.row (IsLookedUp rows b.first b.rest) → (number_after ps i ≡ Some n) × StandsAfter ps rows n b
row_entered f i has a s none r n row b is after ahead =
    let l : length a.run ≡ 0 = ap length none in
    let at = rw row at s.row in (
      next_there f _ (start_of r) at (n ∷ b.run) is n refl i has (omega arith),
      following_there f _ (start_of r) at (n ∷ b.run) is n refl b refl after ahead,
    )

-- nothing is said of a row whose numbers were not looked up
pub none_looked_up : (rows : List (Numbered (List ℕ))) (o : Option ℕ) → IfSome o (IsLookedUp rows None [])
none_looked_up rows None = tt
none_looked_up rows (Some r) = tt

-- nothing is said of what follows a number if nothing was looked up
pub unknown_follows : {X : Type 0} (ps : List (Numbered X)) (rows : List (Numbered (List ℕ))) (i : ℕ) → StandsAfter ps rows i nothing_follows
unknown_follows ps rows i = record { run = λ j n e. absurd cc; row = tt; ahead = tt }

-- no numbers come directly before each number
pub none_before_run : {X : Type 0} (ps : List (Numbered X)) (i : ℕ) → RunsBefore ps i []
none_before_run ps i = (omega arith, λ j n e. absurd cc)
