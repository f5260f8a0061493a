-- What holds of linked leaf records.
use Rattle.std.proofs.Common.{◌≡◌, ◌≢◌, ℕ, ◌+◌, ◌-◌, List, [], ◌∷◌, length, map, refl, sym, ap, subst, ◌∙◌, Option, Some, None, IsSome, Bool, true, false, cond, eqb, inl, inr, arith}
use Rattle.std.specs.Prelude.{option_map, IfSome}
use Rattle.std.proofs.lemmas.Bool.Decides.{eqb_tells}
use Rattle.art_rows.specs.Numbers.{Numbered, Numbers, leaf_in, Has, first_number, number_after, number_before, next_number, with_pair_after, without_number, with_pair, Lacks, AreDistinct}
use Rattle.art_rows.specs.Links.{is_at, end_with, follow, linked, Links, AllLinked, pairs_in, content, with_next, with_prev}
use Rattle.art_slots.specs.Store.{Store, slot_at, used_count, with_record}
use Rattle.art_rows.specs.declared.chain.Link.{Link}
use Rattle.art_rows.specs.declared.chain.Chain.TheInside.{Inside}
use Rattle.art_slots.proofs.CallerLemmas.{with-now, with-others, with-count}
use Rattle.art_rows.proofs.NumbersLemmas.{eqb_same, eqb_other, has_other, Lacks-from_leaf_in, is_at-next_number, is_at-has, leaf_in-with_pair_after, number_after-with_pair_after, number_before-with_pair_after, AreDistinct-with_pair_after, first_number-with_pair_after, last_number-with_pair_after, length-with_pair_after, leaf_in-without_number, number_after-without_number, number_before-without_number, AreDistinct-without_number, first_number-without_number, last_number-without_number, length-without_number, Has-before, Has-next_number, leaf_in-with_pair, leaf_in-with_now, numbers-with_pair, before_other, after_other, same_first, same_last, same_after, same_before, same_distinct, same_length}

module _ {X : Type 0} (leaves : ℕ → Option (Link X)) where
  -- the record of each number has its item, and is linked to the next number
  abbrev IsLinked : List (Numbered X) → Type 0
  IsLinked ps = (i : ℕ) → Has ps i → (x : Link X) × (leaves i ≡ Some x) × (leaf_in ps i ≡ Some x.item) × (x.next ≡ number_after ps i)

  -- the same for the pairs after the first
  IsLinked-tail : (p : Numbered X) (ps : List (Numbered X)) → Lacks ps p.0 → IsLinked (p ∷ ps) → IsLinked ps
  IsLinked-tail p ps l h i has =
      let n : eqb p.0 i ≡ false = eqb_other p.0 i (λ e. has_other ps i p.0 has l (sym e)) in
      let g : Has (p ∷ ps) i = rw n has in
      let y = h i g in
      (y.0, y.1, rw n at y.2, rw n at y.3)

  -- the links lead to the pairs
  follow_linked : (ps : List (Numbered X)) → AreDistinct ps → IsLinked ps → follow leaves (length ps) (first_number ps) ≡ ps
  follow_linked [] d h = refl
  follow_linked (p ∷ ps) d h =
      let s : eqb p.0 p.0 ≡ true = eqb_same p.0 in
      let g : Has (p ∷ ps) p.0 = rw s refl in
      let y = h p.0 g in
      let e : Some p.1 ≡ Some y.0.item = rw s at y.2 in
      let n : y.0.next ≡ first_number ps = rw s at y.3 in
      let v : y.0.item ≡ p.1 = cc in
      rw (y.1, n, follow_linked ps d.1 (IsLinked-tail p ps d.0 h), v) refl

  -- records that are linked to their neighbours are linked to the next number
  is_linked : (ps : List (Numbered X)) → ((i : ℕ) → leaves i ≡ linked ps i) → IsLinked ps
  is_linked ps each i h = go (leaf_in ps i) refl h
    where
      go : (o : Option X) → leaf_in ps i ≡ o → IsSome o → (x : Link X) × (leaves i ≡ Some x) × (leaf_in ps i ≡ Some x.item) × (x.next ≡ number_after ps i)
      go None e s = absurd (let f : false ≡ true = s in cc)
      go (Some x) e s = (record { item = x; prev = number_before ps i; next = number_after ps i }, each i ∙ ap (option_map (λ (x : X). record { item = x; prev = number_before ps i; next = number_after ps i })) e, e, refl)

  -- the links lead to the pairs
  pub follow-links : (first last : Option ℕ) (len : ℕ) (ps : List (Numbered X)) → Links leaves first last len ps → follow leaves len first ≡ ps
  follow-links first last len ps l = rw (l.counted, l.starts) (follow_linked ps l.distinct (is_linked ps l.each))

module _ {X : Type 0} where
  -- the pairs that a contract sees are linked
  pub seen : {c : Numbers X} (i : Inside X) → content i.records i.first ≡ c → AllLinked i.records.store i.first i.last →
      Links (slot_at i.records.store) i.first i.last (used_count i.records.store) c.pairs
  seen i e l = subst (λ (d : Numbers X). Links (slot_at i.records.store) i.first i.last (used_count i.records.store) d.pairs) e l

module _ {X : Type 0} (s : Store (Link X)) {first last : Option ℕ} {ps : List (Numbered X)} (l : Links (slot_at s) first last (used_count s) ps) where
  -- linked pairs are the pairs that a contract sees
  pub pairs_are : pairs_in s first ≡ ps
  pairs_are = follow-links (slot_at s) first last (used_count s) ps l

  -- the records of linked pairs are all linked
  pub all_linked : AllLinked s first last
  all_linked = subst (λ qs. Links (slot_at s) first last (used_count s) qs) (sym pairs_are) l

module _ {X : Type 0} {leaves : ℕ → Option (Link X)} {first last : Option ℕ} {len : ℕ} {ps : List (Numbered X)} (l : Links leaves first last len ps) where
  -- `linked` has a record for each number of the list
  linked_some : (i : ℕ) → IsSome (leaf_in ps i) → IsSome (linked ps i)
  linked_some i h = go (leaf_in ps i) h
    where
      go : (o : Option X) → IsSome o → IsSome (option_map (λ (x : X). let y : Link X = record { item = x; prev = number_before ps i; next = number_after ps i } in y) o)
      go None h = h
      go (Some x) h = refl

  -- each number of the list has a record
  pub has_record : (i : ℕ) → Has ps i → IsSome (leaves i)
  has_record i h = rw (l.each i) (linked_some i h)

  -- the record of a number has its item, and is linked to its neighbours
  pub record_is : (i : ℕ) (x : Link X) → leaves i ≡ Some x → (leaf_in ps i ≡ Some x.item) × (x.prev ≡ number_before ps i) × (x.next ≡ number_after ps i)
  record_is i x e = go (leaf_in ps i) refl
    where
      go : (o : Option X) → leaf_in ps i ≡ o → (leaf_in ps i ≡ Some x.item) × (x.prev ≡ number_before ps i) × (x.next ≡ number_after ps i)
      go None f = (let g : Some x ≡ None = sym e ∙ l.each i ∙ rw f refl in absurd (cc))
      go (Some y) f =
          let r : Link X = record { item = y; prev = number_before ps i; next = number_after ps i } in
          let g : Some x ≡ Some r = sym e ∙ l.each i ∙ rw f refl in
          let h : x ≡ r = cc in
          rw h (f, refl, refl)

  -- a number with no record has no item
  pub no_record : (i : ℕ) → leaves i ≡ None → leaf_in ps i ≡ None
  no_record i e = go (leaf_in ps i) refl
    where
      go : (o : Option X) → leaf_in ps i ≡ o → leaf_in ps i ≡ None
      go None f = f
      go (Some y) f =
          let r : Link X = record { item = y; prev = number_before ps i; next = number_after ps i } in
          let g : None ≡ Some r = sym e ∙ l.each i ∙ rw f refl in
          absurd (cc)

  -- the next number has a record
  pub record_next : (o : Option ℕ) → IfSome (next_number o ps) (λ j. IsSome (leaves j))
  record_next o = go (next_number o ps) refl
    where
      go : (b : Option ℕ) → next_number o ps ≡ b → IfSome b (λ j. IsSome (leaves j))
      go None e = tt
      go (Some j) e = has_record j (Has-next_number o ps j e)

  -- the number before a number has a record
  pub record_before : (i : ℕ) → IfSome (number_before ps i) (λ j. IsSome (leaves j))
  record_before i = go (number_before ps i) refl
    where
      go : (b : Option ℕ) → number_before ps i ≡ b → IfSome b (λ j. IsSome (leaves j))
      go None e = tt
      go (Some j) e = has_record j (Has-before ps i j e)

  -- the number after a number has a record
  pub record_after : (i : ℕ) → IfSome (number_after ps i) (λ j. IsSome (leaves j))
  record_after i = record_next (Some i)

  -- a number of the list, if one is named, has a record
  pub record_at : (o : Option ℕ) → IfSome o (Has ps) → IfSome o (λ j. IsSome (leaves j))
  record_at None h = tt
  record_at (Some j) h = has_record j h

-- ---- changes of records

module _ {X : Type 0} where
  -- a record with an item, linked to two neighbours
  abbrev leaf_of : Option ℕ → Option ℕ → X → Link X
  leaf_of prev next x = record { item = x; prev = prev; next = next }

  -- links that are set if tests hold are the links that the tests choose
  relinked : (o : Option X) (prev next p n : Option ℕ) (at_prev at_next : Bool) → (cond at_prev (option_map (λ (x : Link X). let y : Link X = record x { prev = p } in y) (cond at_next (option_map (λ (x : Link X). let y : Link X = record x { next = n } in y) (option_map (leaf_of prev next) o)) (option_map (leaf_of prev next) o))) (cond at_next (option_map (λ (x : Link X). let y : Link X = record x { next = n } in y) (option_map (leaf_of prev next) o)) (option_map (leaf_of prev next) o))) ≡ option_map (leaf_of (cond at_prev p prev) (cond at_next n next)) o
  relinked None prev next p n true true = refl
  relinked None prev next p n true false = refl
  relinked None prev next p n false true = refl
  relinked None prev next p n false false = refl
  relinked (Some x) prev next p n true true = refl
  relinked (Some x) prev next p n true false = refl
  relinked (Some x) prev next p n false true = refl
  relinked (Some x) prev next p n false false = refl

  module _ {ps : List (Numbered X)} {leaves : ℕ → Option (Link X)} {first last : Option ℕ} {len : ℕ} (l : Links leaves first last len ps) where
    module _ (o : Option ℕ) (n : ℕ) (x : X) (has : IfSome o (Has ps)) (fresh : leaf_in ps n ≡ None) (made next_set prev_set : ℕ → Option (Link X)) (is_made : made n ≡ Some (leaf_of o (next_number o ps) x)) (rest : (j : ℕ) → j ≢ n → made j ≡ leaves j) (nexts : (j : ℕ) → next_set j ≡ with_next made o (Some n) j) (prevs : (j : ℕ) → prev_set j ≡ with_prev next_set (next_number o ps) (Some n) j) where
      -- no pair has the new number
      lacks_new : Lacks ps n
      lacks_new = Lacks-from_leaf_in ps n fresh

      -- the new record is linked to its neighbours
      inserted_now : prev_set n ≡ linked (with_pair_after o (n, x) ps) n
      inserted_now =
          rw (prevs n, is_at-next_number o ps n lacks_new, nexts n, is_at-has o ps n has lacks_new, is_made, leaf_in-with_pair_after o (n, x) ps n has lacks_new, number_after-with_pair_after o (n, x) ps n has lacks_new, number_before-with_pair_after o (n, x) ps n has lacks_new l.distinct, eqb_same n)
          refl

      -- the other records are linked to their neighbours
      inserted_other : (j : ℕ) → n ≢ j → prev_set j ≡ linked (with_pair_after o (n, x) ps) j
      inserted_other j ne =
          rw (prevs j, nexts j, rest j (λ e. ne (sym e)), l.each j, leaf_in-with_pair_after o (n, x) ps j has lacks_new, number_after-with_pair_after o (n, x) ps j has lacks_new, number_before-with_pair_after o (n, x) ps j has lacks_new l.distinct, eqb_other n j ne)
          (relinked (leaf_in ps j) (number_before ps j) (number_after ps j) (Some n) (Some n) (is_at (next_number o ps) j) (is_at o j))

      -- with the new record all records are linked
      pub links_inserted : Links prev_set (end_with o (Some n) first) (end_with (next_number o ps) (Some n) last) (len + 1) (with_pair_after o (n, x) ps)
      links_inserted = record {
        distinct = AreDistinct-with_pair_after o (n, x) ps l.distinct lacks_new;
        each = λ j. elim (eqb_tells n j) [ inl t ↦ subst (λ k. prev_set k ≡ linked (with_pair_after o (n, x) ps) k) t.1 inserted_now | inr t ↦ inserted_other j t.1 ];
        starts = rw l.starts (sym (first_number-with_pair_after o (n, x) ps));
        ends = rw l.ends (sym (last_number-with_pair_after o (n, x) ps has));
        counted = rw l.counted (sym (length-with_pair_after o (n, x) ps has));
      }

    module _ (i : ℕ) (has : Has ps i) (taken next_set prev_set : ℕ → Option (Link X)) (gone : taken i ≡ None) (rest : (j : ℕ) → j ≢ i → taken j ≡ leaves j) (prev next : Option ℕ) (is_prev : prev ≡ number_before ps i) (is_next : next ≡ number_after ps i) (nexts : (j : ℕ) → next_set j ≡ with_next taken prev next j) (prevs : (j : ℕ) → prev_set j ≡ with_prev next_set next prev j) where
      -- the removed number has no record
      removed_now : prev_set i ≡ linked (without_number ps i) i
      removed_now = rw (prevs i, nexts i, gone, leaf_in-without_number ps i i l.distinct, eqb_same i) (none_set (is_at next i) (is_at prev i))
        where
          none_set : (a b : Bool) → cond a (option_map (λ (x : Link X). let y : Link X = record x { prev = prev } in y) (cond b None None)) (cond b None None) ≡ None
          none_set true true = refl
          none_set true false = refl
          none_set false true = refl
          none_set false false = refl

      -- the other records are linked to their neighbours
      removed_other : (j : ℕ) → i ≢ j → prev_set j ≡ linked (without_number ps i) j
      removed_other j ne =
          rw (prevs j, nexts j, rest j (λ e. ne (sym e)), l.each j, leaf_in-without_number ps i j l.distinct, number_after-without_number ps i j l.distinct, number_before-without_number ps i j l.distinct, eqb_other i j ne, ← is_prev, ← is_next)
          (relinked (leaf_in ps j) (number_before ps j) (number_after ps j) prev next (is_at next j) (is_at prev j))

      -- without the removed record all records are linked
      pub links_removed : Links prev_set (end_with prev next first) (end_with next prev last) (len - 1) (without_number ps i)
      links_removed = record {
        distinct = AreDistinct-without_number ps i l.distinct;
        each = λ j. elim (eqb_tells i j) [ inl t ↦ subst (λ k. prev_set k ≡ linked (without_number ps i) k) t.1 removed_now | inr t ↦ removed_other j t.1 ];
        starts = rw (l.starts, is_prev, is_next) (sym (first_number-without_number ps i has));
        ends = rw (l.ends, is_prev, is_next) (sym (last_number-without_number ps i has));
        counted = let n = length-without_number ps i has in let c = l.counted in omega arith;
      }

    module _ (i : ℕ) (r : Link X) (was : leaves i ≡ Some r) (y : X) (changed : ℕ → Option (Link X)) (now : changed i ≡ Some (leaf_of r.prev r.next y)) (rest : (j : ℕ) → j ≢ i → changed j ≡ leaves j) where
      -- the numbers are unchanged
      same_numbers : map (λ p. p.0) (with_pair ps i y) ≡ map (λ p. p.0) ps
      same_numbers = numbers-with_pair ps i y

      -- the changed record has the new item, and the same neighbours
      changed_now : changed i ≡ linked (with_pair ps i y) i
      changed_now =
          let q = record_is l i r was in
          let has : Has ps i = rw q.0 refl in
          rw (now, q.1, q.2, leaf_in-with_now ps i y has, same_before None (with_pair ps i y) ps i same_numbers, same_after (with_pair ps i y) ps i same_numbers) refl

      -- the other records are linked to their neighbours
      changed_other : (j : ℕ) → i ≢ j → changed j ≡ linked (with_pair ps i y) j
      changed_other j ne =
          rw (rest j (λ e. ne (sym e)), l.each j, leaf_in-with_pair ps i y j, eqb_other i j ne, same_before None (with_pair ps i y) ps j same_numbers, same_after (with_pair ps i y) ps j same_numbers) refl

      -- with another item in a record all records are linked
      pub links_changed : Links changed first last len (with_pair ps i y)
      links_changed = record {
        distinct = same_distinct ps (with_pair ps i y) (sym same_numbers) l.distinct;
        each = λ j. elim (eqb_tells i j) [ inl t ↦ subst (λ k. changed k ≡ linked (with_pair ps i y) k) t.1 changed_now | inr t ↦ changed_other j t.1 ];
        starts = rw l.starts (sym (same_first (with_pair ps i y) ps same_numbers));
        ends = rw l.ends (sym (same_last (with_pair ps i y) ps same_numbers));
        counted = rw l.counted (sym (same_length (with_pair ps i y) ps same_numbers));
      }

    -- the same records are linked
    pub links_same : (still : ℕ → Option (Link X)) → ((j : ℕ) → still j ≡ leaves j) → Links still first last len ps
    links_same still same = record {
      distinct = l.distinct;
      each = λ j. same j ∙ l.each j;
      starts = l.starts;
      ends = l.ends;
      counted = l.counted;
    }

    -- a number other than the removed number still has a record
    left : (o : Option ℕ) (i : ℕ) (taken : ℕ → Option (Link X)) → is_at o i ≡ false → ((j : ℕ) → j ≢ i → taken j ≡ leaves j) → IfSome o (λ j. IsSome (leaves j)) → IfSome o (λ j. IsSome (taken j))
    left None i taken n rest h = tt
    left (Some j) i taken n rest h = rw (rest j (λ e. let a : eqb j i ≡ true = rw e (eqb_same i) in let b : true ≡ false = sym a ∙ n in cc)) h

    -- if a record is removed, the leaf before it still has a record
    pub left_before : (i : ℕ) (taken : ℕ → Option (Link X)) → Has ps i → ((j : ℕ) → j ≢ i → taken j ≡ leaves j) → IfSome (number_before ps i) (λ j. IsSome (taken j))
    left_before i taken has rest = left (number_before ps i) i taken (before_other ps i l.distinct has) rest (record_before l i)

    -- if a record is removed, the leaf after it still has a record
    pub left_after : (i : ℕ) (taken : ℕ → Option (Link X)) → Has ps i → ((j : ℕ) → j ≢ i → taken j ≡ leaves j) → IfSome (number_after ps i) (λ j. IsSome (taken j))
    left_after i taken has rest = left (number_after ps i) i taken (after_other ps i l.distinct has) rest (record_after l i)

  -- if a record is added, each number that has a record still has one
  pub still_made : (o : Option ℕ) (n : ℕ) (leaves made : ℕ → Option (Link X)) (x : Link X) → made n ≡ Some x → ((j : ℕ) → j ≢ n → made j ≡ leaves j) → IfSome o (λ j. IsSome (leaves j)) → IfSome o (λ j. IsSome (made j))
  still_made None n leaves made x is rest h = tt
  still_made (Some j) n leaves made x is rest h = elim (eqb_tells n j) [
    | inl t ↦ rw (← t.1, is) refl
    | inr t ↦ rw (rest j (λ e. t.1 (sym e))) h
  ]

  -- if a link is set, each number that has a record still has one
  pub still_linked : (o : Option ℕ) (leaves next_set : ℕ → Option (Link X)) (at to : Option ℕ) → ((j : ℕ) → next_set j ≡ with_next leaves at to j) → IfSome o (λ j. IsSome (leaves j)) → IfSome o (λ j. IsSome (next_set j))
  still_linked None leaves next_set at to sets h = tt
  still_linked (Some j) leaves next_set at to sets h = rw (sets j) (still (is_at at j) (leaves j) h)
    where
      still : (b : Bool) (o : Option (Link X)) → IsSome o → IsSome (cond b (option_map (λ (x : Link X). let y : Link X = record x { next = to } in y) o) o)
      still b None h = absurd (let f : false ≡ true = h in cc)
      still true (Some x) h = refl
      still false (Some x) h = refl

  -- ---- stores of leaves

  module _ (s : Store (Link X)) {first last : Option ℕ} {ps : List (Numbered X)} (l : Links (slot_at s) first last (used_count s) ps) where
    -- the same records are linked in a store with other spare slots
    pub store_same : (t : Store (Link X)) → ((j : ℕ) → slot_at t j ≡ slot_at s j) → used_count t ≡ used_count s → Links (slot_at t) first last (used_count t) ps
    store_same t same used = rw used (links_same l (slot_at t) same)

    module _ (id : ℕ) where
      -- each number of the list has a record in the store
      pub stored : Has ps id → IsSome (slot_at s id)
      stored h = has_record l id h

      -- the record in the store has the item of its number
      pub stored_pair : (r : Link X) → slot_at s id ≡ Some r → leaf_in ps id ≡ Some r.item
      stored_pair r was = (record_is l id r was).0

      -- the record is linked to the leaf before it, and to the leaf after it
      pub stored_prev : (r : Link X) → slot_at s id ≡ Some r → r.prev ≡ number_before ps id
      stored_prev r was = (record_is l id r was).1

      pub stored_next : (r : Link X) → slot_at s id ≡ Some r → r.next ≡ number_after ps id
      stored_next r was = (record_is l id r was).2

      -- with another item in the record all records are linked
      pub store_changed : (r x : Link X) → slot_at s id ≡ Some r → (y : X) → x ≡ leaf_of r.prev r.next y → Links (slot_at (with_record s id x)) first last (used_count (with_record s id x)) (with_pair ps id y)
      store_changed r x was y e =
          let now : slot_at (with_record s id x) id ≡ Some (leaf_of r.prev r.next y) = rw (← e) (with-now s id r x was) in
          let rest : (j : ℕ) → j ≢ id → slot_at (with_record s id x) j ≡ slot_at s j = with-others s id r x was in
          rw (with-count s id r x was) (links_changed l id r was y (slot_at (with_record s id x)) now rest)

      module _ (has : Has ps id) (r : Link X) (was : slot_at s id ≡ Some r) (taken : Store (Link X)) (rest : (j : ℕ) → j ≢ id → slot_at taken j ≡ slot_at s j) where
        -- the record has its item, and is linked to its neighbours
        record_of : (leaf_in ps id ≡ Some r.item) × (r.prev ≡ number_before ps id) × (r.next ≡ number_after ps id)
        record_of = record_is l id r was

        -- the leaf before the removed leaf has a record
        pub taken_before : IfSome r.prev (λ j. IsSome (slot_at taken j))
        taken_before = rw record_of.1 (left_before l id (slot_at taken) has rest)

        -- the leaf after the removed leaf has a record
        pub taken_after : IfSome r.next (λ j. IsSome (slot_at taken j))
        taken_after = rw record_of.2 (left_after l id (slot_at taken) has rest)

        -- without the removed record all records are linked
        pub store_removed : slot_at taken id ≡ None → used_count taken + 1 ≡ used_count s → (next_set prev_set : Store (Link X)) → ((j : ℕ) → slot_at next_set j ≡ with_next (slot_at taken) r.prev r.next j) → ((j : ℕ) → slot_at prev_set j ≡ with_prev (slot_at next_set) r.next r.prev j) → used_count next_set ≡ used_count taken → used_count prev_set ≡ used_count next_set → (first' last' : Option ℕ) → first' ≡ end_with r.prev r.next first → last' ≡ end_with r.next r.prev last → Links (slot_at prev_set) first' last' (used_count prev_set) (without_number ps id)
        store_removed gone less next_set prev_set nexts prevs same same' first' last' firsts lasts =
            let count : used_count prev_set ≡ used_count s - 1 = omega arith in
            rw (firsts, lasts, count)
            (links_removed l id has (slot_at taken) (slot_at next_set) (slot_at prev_set) gone rest r.prev r.next record_of.1 record_of.2 nexts prevs)

    module _ (o b : Option ℕ) (is : b ≡ next_number o ps) (has : IfSome o (Has ps)) (n : ℕ) (fresh : slot_at s n ≡ None) (y : X) (made : Store (Link X)) (now : slot_at made n ≡ Some (leaf_of o b y)) (rest : (j : ℕ) → j ≢ n → slot_at made j ≡ slot_at s j) where
      -- the leaf before the new leaf has a record
      pub made_before : IfSome o (λ j. IsSome (slot_at made j))
      made_before = still_made o n (slot_at s) (slot_at made) _ now rest (record_at l o has)

      -- the leaf after the new leaf has a record
      pub made_next : IfSome b (λ j. IsSome (slot_at made j))
      made_next = still_made b n (slot_at s) (slot_at made) _ now rest (rw is (record_next l o))

      -- with the new record all records are linked
      pub store_inserted : used_count made ≡ used_count s + 1 → (next_set prev_set : Store (Link X)) → ((j : ℕ) → slot_at next_set j ≡ with_next (slot_at made) o (Some n) j) → ((j : ℕ) → slot_at prev_set j ≡ with_prev (slot_at next_set) b (Some n) j) → used_count next_set ≡ used_count made → used_count prev_set ≡ used_count next_set → (first' last' : Option ℕ) → first' ≡ end_with o (Some n) first → last' ≡ end_with b (Some n) last → Links (slot_at prev_set) first' last' (used_count prev_set) (with_pair_after o (n, y) ps)
      store_inserted more next_set prev_set nexts prevs same same' first' last' firsts lasts =
          let none = no_record l n fresh in
          let made_now : slot_at made n ≡ Some (leaf_of o (next_number o ps) y) = rw (← is) now in
          let prevs_now : (j : ℕ) → slot_at prev_set j ≡ with_prev (slot_at next_set) (next_number o ps) (Some n) j = rw (← is) prevs in
          let count : used_count prev_set ≡ used_count s + 1 = omega arith in
          rw (firsts, lasts, is, count)
          (links_inserted l o n y has none (slot_at made) (slot_at next_set) (slot_at prev_set) made_now rest nexts prevs_now)
