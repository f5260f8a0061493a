-- A page as it grows, pair by pair.
use Rattle.std.proofs.Common.{◌≡◌, ◌+◌, ◌-◌, Bor, ◌≤◌, ◌<◌, ◌⊎◌, inl, inr, ℕ, zero, suc, List, [], ◌∷◌, ◌++◌, Option, Some, None, refl, sym, ap, ◌∙◌, arith, length, take, drop, slice_get, slice_set, append_assoc, append-nil, subst}
use Rattle.std.proofs.Math.Seq.{take-append_seam, take-append-add, drop-append-add}
use Rattle.std.proofs.lemmas.List.{length-append, length-drop, length-map, map-append, drop_all}
use Rattle.std.proofs.lemmas.Option.{slice_get_past}
use Rattle.std.specs.Prelude.{Vec, MatchOption, option_map, unwrap_or}
use Rattle.std.specs.Global.{Global}
use Rattle.blart_keys.specs.Stored.{shown}
use Rattle.blart_c.specs.Held.{Pair, key_length, last_of, plain}
use Rattle.blart_c.specs.Paged.{Fits, IsPage, ends_from, key_bytes, over, values_of}

-- ---- buffers

length_over : (new old : List ℕ) → length new ≤ length old → length (over new old) ≡ length old
length_over new old low = length-append new (drop (length new) old) ∙ (ap (λ n. length new + n) (length-drop (length new) old) ∙ omega arith)

-- one more number
over_set : (new old : List ℕ) (v : ℕ) → length new < length old → slice_set (over new old) (length new) v ≡ over (new ++ v ∷ []) old
over_set [] [] v low = absurd (omega arith)
over_set [] (x ∷ old) v low = refl
over_set (y ∷ new) [] v low = absurd (omega arith)
over_set (y ∷ new) (x ∷ old) v low = ap (λ l. y ∷ l) (over_set new old v (omega arith))

set_grown : (new old now : List ℕ) (count v : ℕ) → length new ≡ count → now ≡ over new old → count < length old → slice_set now count v ≡ over (new ++ v ∷ []) old
set_grown new old now count v counted is low =
    ap (λ n. slice_set now n v) (sym counted) ∙ (ap (λ l. slice_set l (length new) v) is ∙ over_set new old v (subst (λ n. n < length old) (sym counted) low))

drop_twice : (m n : ℕ) (xs : List ℕ) → drop n (drop m xs) ≡ drop (m + n) xs
drop_twice zero n xs = ap (λ k. drop k xs) (omega arith)
drop_twice (suc m) n [] = drop_all n [] (omega arith) ∙ sym (drop_all (suc m + n) [] (omega arith))
drop_twice (suc m) n (x ∷ xs) = drop_twice m n xs ∙ let e : suc (m + n) ≡ suc m + n = omega arith in ap (λ k. drop k (x ∷ xs)) e

-- more bytes
over_bytes : (new more old : List ℕ) → (take (length new) (over new old) ++ more) ++ drop (length new + length more) (over new old) ≡ over (new ++ more) old
over_bytes new more old =
    ap (λ l. (l ++ more) ++ drop (length new + length more) (over new old)) (take-append_seam new (drop (length new) old))
    ∙ (ap (λ l. (new ++ more) ++ l) (drop-append-add new (drop (length new) old) (length more) ∙ drop_twice (length new) (length more) old)
    ∙ ap (λ n. (new ++ more) ++ drop n old) (sym (length-append new more)))

bytes_grown : (new more old now after : List ℕ) (used : ℕ) → length new ≡ used → now ≡ over new old → after ≡ (take used now ++ more) ++ drop (used + length more) now → after ≡ over (new ++ more) old
bytes_grown new more old now after used filled is e =
    e ∙ (ap (λ n. (take n now ++ more) ++ drop (n + length more) now) (sym filled)
    ∙ (ap (λ l. (take (length new) l ++ more) ++ drop (length new + length more) l) is ∙ over_bytes new more old))

-- ---- one more pair

key_bytes_push : (done : List Pair) (pair : Pair) → key_bytes (done ++ pair ∷ []) ≡ key_bytes done ++ pair.0.items
key_bytes_push [] pair = append-nil pair.0.items
key_bytes_push (x ∷ done) pair = ap (λ l. x.0.items ++ l) (key_bytes_push done pair) ∙ sym (append_assoc x.0.items (key_bytes done) pair.0.items)

ends_push : (n : ℕ) (done : List Pair) (pair : Pair) → ends_from n (done ++ pair ∷ []) ≡ ends_from n done ++ (n + length (key_bytes done) + key_length pair) ∷ []
ends_push n [] pair = ap (λ m. m ∷ []) (omega arith)
ends_push n (x ∷ done) pair =
    let e : n + key_length x + length (key_bytes done) + key_length pair ≡ n + length (key_bytes (x ∷ done)) + key_length pair = omega (arith, length-append x.0.items (key_bytes done)) in
    ap (λ l. (n + key_length x) ∷ l) (ends_push (n + key_length x) done pair ∙ ap (λ m. ends_from (n + key_length x) done ++ m ∷ []) e)

length_ends : (n : ℕ) (done : List Pair) → length (ends_from n done) ≡ length done
length_ends n [] = refl
length_ends n (x ∷ done) = ap (λ m. suc m) (length_ends (n + key_length x) done)

get_seam : (done : List Pair) (pair : Pair) (left : List Pair) → slice_get (done ++ pair ∷ left) (length done) ≡ Some pair
get_seam [] pair left = refl
get_seam (x ∷ done) pair left = get_seam done pair left

-- ---- the loop

-- the pairs `done` of S are copied, and `left` are not
pub record HasCopied (S left done : List Pair) (count used : ℕ) (keys keys' ends ends' values values' : List ℕ) : Type 0 where
  pub parted : S ≡ done ++ left
  pub counted : length done ≡ count
  pub filled : length (key_bytes done) ≡ used
  pub key_room : used ≤ length keys
  pub end_room : count ≤ length ends
  pub value_room : count ≤ length values
  pub copied_keys : keys' ≡ over (key_bytes done) keys
  pub copied_ends : ends' ≡ over (ends_from 0 done) ends
  pub copied_values : values' ≡ over (values_of done) values

module _ (S left done : List Pair) (count used : ℕ) (keys keys' ends ends' values values' : List ℕ)
    (h : HasCopied S left done count used keys keys' ends ends' values values') where
  key_buffer : length keys' ≡ length keys
  key_buffer = ap length h.copied_keys ∙ length_over (key_bytes done) keys (omega (arith, h.filled, h.key_room))

  end_buffer : length ends' ≡ length ends
  end_buffer = ap length h.copied_ends ∙ length_over (ends_from 0 done) ends (omega (arith, length_ends 0 done, h.counted, h.end_room))

  value_buffer : length values' ≡ length values
  value_buffer = ap length h.copied_values ∙ length_over (values_of done) values (omega (arith, length-map done (λ (pair : Pair). pair.1), h.counted, h.value_room))

  -- the pair is copied
  pub copies_one : (pair : Pair) (rest : List Pair) (more after : List ℕ) (n : ℕ) → left ≡ pair ∷ rest → more ≡ pair.0.items → n ≡ length pair.0.items
      → used + length more ≤ length keys' → count < length ends' → count < length values'
      → after ≡ (take used keys' ++ more) ++ drop (used + length more) keys'
      → HasCopied S rest (done ++ pair ∷ []) (count + 1) (used + n) keys after ends (slice_set ends' count (used + n)) values (slice_set values' count pair.1)
  copies_one pair rest more after n is bytes len fits end_fits value_fits put =
      let pushed : length (key_bytes (done ++ pair ∷ [])) ≡ used + n =
      ap length (key_bytes_push done pair) ∙ (length-append (key_bytes done) pair.0.items ∙ omega (arith, h.filled, len)) in
      let end_is : 0 + length (key_bytes done) + key_length pair ≡ used + n = omega (arith, h.filled, len) in record {
        parted = h.parted ∙ (ap (λ l. done ++ l) is ∙ sym (append_assoc done (pair ∷ []) rest));
        counted = length-append done (pair ∷ []) ∙ ap (λ m. m + 1) h.counted;
        filled = pushed;
        key_room = omega (arith, fits, key_buffer, len, ap length bytes);
        end_room = omega (arith, end_fits, end_buffer);
        value_room = omega (arith, value_fits, value_buffer);
        copied_keys = bytes_grown (key_bytes done) more keys keys' after used h.filled h.copied_keys put
            ∙ ap (λ l. over l keys) (ap (λ l. key_bytes done ++ l) bytes ∙ sym (key_bytes_push done pair));
        copied_ends = set_grown (ends_from 0 done) ends ends' count (used + n) (length_ends 0 done ∙ h.counted) h.copied_ends (omega (arith, end_fits, end_buffer))
            ∙ ap (λ l. over l ends) (ap (λ m. ends_from 0 done ++ m ∷ []) (sym end_is) ∙ sym (ends_push 0 done pair));
        copied_values = set_grown (values_of done) values values' count pair.1 (length-map done (λ (p : Pair). p.1) ∙ h.counted) h.copied_values (omega (arith, value_fits, value_buffer))
            ∙ ap (λ l. over l values) (sym (map-append (λ (p : Pair). p.1) done (pair ∷ [])));
      }

  taken : take count S ≡ done
  taken = ap (λ l. take count l) h.parted ∙ (ap (λ m. take m (done ++ left)) (sym h.counted) ∙ take-append_seam done left)

  fits_all : Fits S count (length keys) (length ends) (length values)
  fits_all = record {
    stored = omega (arith, ap length h.parted ∙ length-append done left, h.counted);
    keys = omega (arith, ap (λ l. length (key_bytes l)) taken, h.filled, h.key_room);
    ends = h.end_room;
    values = h.value_room;
  }

  page_of : (needed : ℕ) (after : List ℕ) → after ≡ keys' → ¬ Fits S (count + 1) (length keys) (length ends) (length values)
      → needed ≡ unwrap_or (option_map key_length (slice_get S count)) 0 → IsPage S count keys after ends ends' values values' needed
  page_of needed after same most next = record {
    fits = fits_all;
    most = most;
    copied_keys = same ∙ (h.copied_keys ∙ ap (λ l. over (key_bytes l) keys) (sym taken));
    copied_ends = h.copied_ends ∙ ap (λ l. over (ends_from 0 l) ends) (sym taken);
    copied_values = h.copied_values ∙ ap (λ l. over (values_of l) values) (sym taken);
    next = next;
  }

  -- no pair is left
  pub page_done : left ≡ [] → IsPage S count keys keys' ends ends' values values' 0
  page_done none =
      let whole : length S ≡ count = ap length (h.parted ∙ (ap (λ l. done ++ l) none ∙ append-nil done)) ∙ h.counted in
      page_of 0 keys' refl (λ f. omega (arith, f.stored, whole)) (ap (λ o. unwrap_or (option_map key_length o) 0) (sym (slice_get_past S count (omega (arith, whole)))))

  -- the next pair does not fit
  pub page_full : (pair : Pair) (rest : List Pair) (after : List ℕ) (n : ℕ) → left ≡ pair ∷ rest → after ≡ keys' → n ≡ length pair.0.items
      → (length ends' ≤ count) ⊎ ((length values' ≤ count) ⊎ (length keys' < used + n)) → IsPage S count keys after ends ends' values values' n
  page_full pair rest after n is same len why =
      let at_seam : S ≡ done ++ pair ∷ rest = h.parted ∙ ap (λ l. done ++ l) is in
      let next : slice_get S count ≡ Some pair = ap (λ l. slice_get l count) at_seam ∙ (ap (λ m. slice_get (done ++ pair ∷ rest) m) (sym h.counted) ∙ get_seam done pair rest) in
      let more : take (count + 1) S ≡ done ++ pair ∷ [] = ap (λ l. take (count + 1) l) at_seam ∙ (ap (λ m. take (m + 1) (done ++ pair ∷ rest)) (sym h.counted) ∙ take-append-add done (pair ∷ rest) 1) in
      let bytes : length (key_bytes (take (count + 1) S)) ≡ used + n = ap (λ l. length (key_bytes l)) more ∙ (ap length (key_bytes_push done pair) ∙ (length-append (key_bytes done) pair.0.items ∙ omega (arith, h.filled, len))) in
      page_of n after same (λ f. elim why [
        | inl e ↦ omega (arith, f.ends, e, end_buffer)
        | inr w ↦ elim w [ inl e ↦ omega (arith, f.values, e, value_buffer) | inr e ↦ omega (arith, f.keys, e, bytes, key_buffer) ]
      ]) (len ∙ ap (λ o. unwrap_or (option_map key_length o) 0) (sym next))

-- a page of no pairs
pub empty_page : (S : List Pair) (keys ends values : List ℕ) → S ≡ [] → IsPage S 0 keys keys ends ends values values 0
empty_page S keys ends values none = record {
  fits = record { stored = omega arith; keys = omega arith; ends = omega arith; values = omega arith };
  most = λ f. omega (arith, f.stored, ap length none);
  copied_keys = refl;
  copied_ends = refl;
  copied_values = refl;
  next = ap (λ l. unwrap_or (option_map key_length (slice_get l 0)) 0) (sym none);
}

-- the last pair that a walk returns, as C sees it
pub last_shown : (S walk rest : List Pair) (pair : Option (Bor (Vec ℕ Global) × Bor ℕ)) → walk ≡ S
    → MatchOption pair ((walk ≡ []) × (rest ≡ [])) (λ x. walk ≡ rest ++ (x.0.now, x.1.now) ∷ []) → option_map plain (shown pair) ≡ last_of S
last_shown S walk rest None is steps = ap last_of (sym steps.0 ∙ is)
last_shown S walk rest (Some x) is steps =
    let pair : Pair = (x.0.now, x.1.now) in
    let at_end : length (rest ++ pair ∷ []) - 1 ≡ length rest = omega (arith, length-append rest (pair ∷ [])) in
    ap (λ o. option_map plain o) (sym (ap (λ n. slice_get (rest ++ pair ∷ []) n) at_end ∙ get_seam rest pair [])) ∙ ap last_of (sym steps ∙ is)
