-- An index of places: each change is a write of its table.
use Rattle.std.proofs.Common.{◌≡◌, ◌≢◌, ℕ, zero, suc, ◌+◌, ◌-◌, ◌<◌, ◌≤◌, List, [], ◌∷◌, length, get_or, set, Option, Some, None, IsSome, is_some, count_by, refl, arith, eqb, true, false, ◌⊎◌, inl, inr, sym, ap, ◌∙◌, subst, length-set}
use Rattle.std.proofs.lemmas.Bool.{ne_eqb, lt-ltb, le-ltb}
use Rattle.std.proofs.lemmas.Bool.Decides.{eqb_tells, leb_tells}
use Rattle.std.proofs.lemmas.List.{get_or-set_same, get_or-set_other, get_or_default, ext_get_or}
use Rattle.std.specs.Prelude.{ltb}
use Rattle.art_kinds.specs.Edges.{child_at, AddsChild, DropsChild, RedirectsChild, Filled, IsIndex, edges_of, table, child_under, moved}
use Rattle.art_kinds.specs.declared.records.ids.Child.{Child}
use Rattle.art_kinds.specs.declared.records.ids.Child.TheVariants.{Leaf}
use Rattle.art_kinds.proofs.Tables.{child_at-edges, length-edges, table_adds, table_drops, table_redirects, filled-adds, filled-drops, filled-same}

pub at-table : (index : List ℕ) (children : List Child) (b : ℕ) → get_or (table index children) b None ≡ child_under children (get_or index b 48)
at-table [] children zero = refl
at-table [] children (suc b) = refl
at-table (x ∷ index) children zero = refl
at-table (x ∷ index) children (suc b) = at-table index children b

pub length-table : (index : List ℕ) (children : List Child) → length (table index children) ≡ length index
length-table [] children = refl
length-table (x ∷ index) children = ap suc (length-table index children)

pub under-none : (children : List Child) (s : ℕ) → 48 ≤ s → child_under children s ≡ None
under-none children s l = let t : ltb s 48 ≡ false = le-ltb s 48 l in rw t refl

pub under-some : (children : List Child) (s : ℕ) → s < 48 → child_under children s ≡ Some (get_or children s (Leaf 0))
under-some children s l = let t : ltb s 48 ≡ true = lt-ltb s 48 l in rw t refl

under-kept : (children : List Child) (n s : ℕ) (to : Child) → (s < 48 → s ≢ n) → child_under (set children n to) s ≡ child_under children s
under-kept children n s to off =
    elim (leb_tells (suc s) 48) [
      | inl p ↦ (let l : s < 48 = p.1 in under-some (set children n to) s l ∙ ap Some (get_or-set_other children n s to (Leaf 0) (off l)) ∙ sym (under-some children s l))
      | inr p ↦ (let l : 48 < suc s = p.1 in under-none (set children n to) s (omega arith) ∙ sym (under-none children s (omega arith)))
    ]

-- the table after a change at one byte
written : (index : List ℕ) (children : List Child) (index' : List ℕ) (children' : List Child) (b : ℕ) (o : Option Child) → b < length index → length index' ≡ length index → child_under children' (get_or index' b 48) ≡ o → ((c : ℕ) → c ≢ b → child_under children' (get_or index' c 48) ≡ child_under children (get_or index c 48)) → table index' children' ≡ set (table index children) b o
written index children index' children' b o l same here there =
    let t = table index children in
    let n : length t ≡ length index = length-table index children in
    ext_get_or None (table index' children') (set t b o) (length-table index' children' ∙ same ∙ sym n ∙ sym (length-set t b o)) (λ j _. elim (eqb_tells j b) [
      | inl p ↦ ap (λ z. get_or (table index' children') z None) p.1 ∙ at-table index' children' b ∙ here ∙ sym (ap (λ z. get_or (set t b o) z None) p.1 ∙ get_or-set_same t b o None (omega arith))
      | inr p ↦ at-table index' children' j ∙ there j p.1 ∙ sym (at-table index children j) ∙ sym (get_or-set_other t b j o None p.1)
    ])

module _ (n : ℕ) (index : List ℕ) (children : List Child) (i : IsIndex n index children) where
  -- the table has n children
  pub filled_of : Filled n (table index children)
  filled_of = record { wide = length-table index children ∙ i.wide; counted = i.counted }

  pub child_at-index : (b : ℕ) → child_at (edges_of (table index children)) b ≡ child_under children (get_or index b 48)
  child_at-index b = child_at-edges (table index children) b ∙ at-table index children b

  -- there are n edges
  pub length-index : length (edges_of (table index children)) ≡ n
  length-index = length-edges (table index children) 0 ∙ i.counted

  -- a byte with a child has a place
  pub present : (b : ℕ) → IsSome (child_at (edges_of (table index children)) b) → get_or index b 48 < 48
  present b some =
      elim (leb_tells (suc (get_or index b 48)) 48) [
        | inl p ↦ p.1
        | inr p ↦ (
            let q : 48 < suc (get_or index b 48) = p.1 in
            let e : child_at (edges_of (table index children)) b ≡ None = child_at-index b ∙ under-none children (get_or index b 48) (omega arith) in
            let P : Option Child → Type 0 = λ o. IsSome o in
            let f : IsSome {T = Child} None = subst P e some in
            absurd cc)
      ]

  -- one more child, in the first free place
  module _ (b : ℕ) (to : Child) (small : b < 256) (fits : length (edges_of (table index children)) + 1 ≤ 48) (none : child_at (edges_of (table index children)) b ≡ None) where
    pub n_lt : n < 48
    n_lt = let e : length (edges_of (table index children)) ≡ n = length-index in omega arith

    in_index : b < length index
    in_index = let w : length index ≡ 256 = i.wide in omega arith

    at_b : get_or (set index b n) b 48 ≡ n
    at_b = get_or-set_same index b n 48 in_index

    at_c : (c : ℕ) → c ≢ b → get_or (set index b n) c 48 ≡ get_or index c 48
    at_c c off = get_or-set_other index b c n 48 off

    here : child_under (set children n to) (get_or (set index b n) b 48) ≡ Some to
    here =
        let l : length children ≡ 48 = i.long in
        let g : n < 48 = n_lt in
        let e : get_or (set children n to) n (Leaf 0) ≡ to = get_or-set_same children n to (Leaf 0) (omega arith) in
        ap (child_under (set children n to)) at_b ∙ under-some (set children n to) n g ∙ ap Some e

    there : (c : ℕ) → c ≢ b → child_under (set children n to) (get_or (set index b n) c 48) ≡ child_under children (get_or index c 48)
    there c off = ap (child_under (set children n to)) (at_c c off) ∙ under-kept children n (get_or index c 48) to (λ l e. (let h : get_or index c 48 < n = i.used c l in omega (arith, e)))

    is_set : table (set index b n) (set children n to) ≡ set (table index children) b (Some to)
    is_set = written index children (set index b n) (set children n to) b (Some to) in_index (length-set index b n) here there

    in_table : b < length (table index children)
    in_table = let e = length-table index children in let l = in_index in omega (arith, e, l)

    pub index_adds : AddsChild (edges_of (table index children)) (edges_of (table (set index b n) (set children n to))) b to
    index_adds = subst (λ (t : List (Option Child)). AddsChild (edges_of (table index children)) (edges_of t) b to) (sym is_set) (table_adds (table index children) b in_table to none)

    pub index_more : IsIndex (n + 1) (set index b n) (set children n to)
    index_more =
        let g : n < 48 = n_lt in
        record {
          within = omega arith;
          wide = length-set index b n ∙ i.wide;
          long = length-set children n to ∙ i.long;
          used = λ c h. elim (eqb_tells c b) [
            | inl p ↦ (let f : get_or (set index b n) c 48 ≡ n = ap (λ z. get_or (set index b n) z 48) p.1 ∙ at_b in omega (arith, f))
            | inr p ↦ (let f : get_or (set index b n) c 48 ≡ get_or index c 48 = at_c c p.1 in let k : get_or index c 48 < n = i.used c (omega (arith, f, h)) in omega (arith, f))
          ];
          apart = λ c d h e. elim (eqb_tells c b) [
            | inl p ↦ elim (eqb_tells d b) [
              | inl q ↦ p.1 ∙ sym q.1
              | inr q ↦ (
                  let f : get_or (set index b n) c 48 ≡ n = ap (λ z. get_or (set index b n) z 48) p.1 ∙ at_b in
                  let u : get_or (set index b n) d 48 ≡ get_or index d 48 = at_c d q.1 in
                  let k : get_or index d 48 < n = i.used d (omega (arith, f, u, e, h)) in
                  absurd (omega (arith, f, u, e, k)))
            ]
            | inr p ↦ elim (eqb_tells d b) [
              | inl q ↦ (
                  let f : get_or (set index b n) d 48 ≡ n = ap (λ z. get_or (set index b n) z 48) q.1 ∙ at_b in
                  let u : get_or (set index b n) c 48 ≡ get_or index c 48 = at_c c p.1 in
                  let k : get_or index c 48 < n = i.used c (omega (arith, u, h)) in
                  absurd (omega (arith, f, u, e, k)))
              | inr q ↦ (
                  let u : get_or (set index b n) c 48 ≡ get_or index c 48 = at_c c p.1 in
                  i.apart c d (omega (arith, u, h)) (sym u ∙ e ∙ at_c d q.1))
            ]
          ];
          counted = (filled-adds (table index children) (table (set index b n) (set children n to)) n b to (length-table (set index b n) (set children n to) ∙ length-set index b n ∙ sym (length-table index children)) filled_of index_adds).counted;
        }

  -- another child at a byte that has one
  module _ (b : ℕ) (to : Child) (small : b < 256) (some : IsSome (child_at (edges_of (table index children)) b)) where
    abbrev at : ℕ
    at = get_or index b 48

    pub place_lt : get_or index b 48 < 48
    place_lt = present b some

    pub place_is : get_or index b 48 ≡ get_or index b 0
    place_is = let w : length index ≡ 256 = i.wide in get_or_default index b 48 0 (omega arith)

    led : child_under (set children at to) (get_or index b 48) ≡ Some to
    led =
        let l : length children ≡ 48 = i.long in
        let g : at < 48 = place_lt in
        under-some (set children at to) at g ∙ ap Some (get_or-set_same children at to (Leaf 0) (omega arith))

    rest : (c : ℕ) → c ≢ b → child_under (set children at to) (get_or index c 48) ≡ child_under children (get_or index c 48)
    rest c off = under-kept children at (get_or index c 48) to (λ l e. off (i.apart c b l e))

    led_set : table index (set children at to) ≡ set (table index children) b (Some to)
    led_set = let w : length index ≡ 256 = i.wide in written index children index (set children at to) b (Some to) (omega arith) refl led rest

    led_edges : RedirectsChild (edges_of (table index children)) (edges_of (table index (set children at to))) b to
    led_edges =
        let w : length index ≡ 256 = i.wide in
        let e : length (table index children) ≡ length index = length-table index children in
        subst (λ (t : List (Option Child)). RedirectsChild (edges_of (table index children)) (edges_of t) b to) (sym led_set) (table_redirects (table index children) b (omega arith) to some)

    led_index : IsIndex n index (set children at to)
    led_index = record {
      within = i.within;
      wide = i.wide;
      long = length-set children at to ∙ i.long;
      used = i.used;
      apart = i.apart;
      counted = (filled-same (table index children) (table index (set children at to)) n b to (length-table index (set children at to) ∙ sym (length-table index children)) filled_of led_edges).counted;
    }

    pub index_redirects : RedirectsChild (edges_of (table index children)) (edges_of (table index (set children (get_or index b 0) to))) b to
    index_redirects = subst (λ z. RedirectsChild (edges_of (table index children)) (edges_of (table index (set children z to))) b to) place_is led_edges

    pub index_same : IsIndex n index (set children (get_or index b 0) to)
    index_same = subst (λ z. IsIndex n index (set children z to)) place_is led_index

  -- one child less: the last child moves to its place
  module _ (b last : ℕ) (index' : List ℕ) (v : Child) (small : b < 256) (some : IsSome (child_at (edges_of (table index children)) b)) (last_is : last + 1 ≡ n) (v_is : v ≡ get_or children last (Leaf 0)) (same : length index' ≡ length index) (is : (c : ℕ) → get_or index' c 48 ≡ moved last (get_or index b 48) (get_or (set index b 48) c 48)) where
    abbrev s : ℕ
    s = get_or index b 48

    abbrev children' : List Child
    children' = set children s v

    s_lt : s < 48
    s_lt = present b some

    at_b' : get_or index' b 48 ≡ 48
    at_b' =
        let w : length index ≡ 256 = i.wide in
        let n48 : n ≤ 48 = i.within in
        let e : get_or (set index b 48) b 48 ≡ 48 = get_or-set_same index b 48 48 (omega arith) in
        let t : eqb 48 last ≡ false = ne_eqb 48 last (λ z. omega (arith, z)) in
        is b ∙ ap (moved last s) e ∙ rw t refl

    at_c' : (c : ℕ) → c ≢ b → get_or index' c 48 ≡ moved last s (get_or index c 48)
    at_c' c off = is c ∙ ap (moved last s) (get_or-set_other index b c 48 48 off)

    -- the place of another byte was the last and becomes the free place, or is unchanged
    cases_c : (c : ℕ) → c ≢ b → ((get_or index c 48 ≡ last) × (get_or index' c 48 ≡ s)) ⊎ ((get_or index c 48 ≢ last) × (get_or index' c 48 ≡ get_or index c 48))
    cases_c c off =
        elim (eqb_tells (get_or index c 48) last) [
          | inl p ↦ inl (p.1, at_c' c off ∙ rw p.0 refl)
          | inr p ↦ inr (p.1, at_c' c off ∙ rw p.0 refl)
        ]

    off_s : (c : ℕ) → c ≢ b → get_or index c 48 ≢ s
    off_s c off e = off (sym (i.apart b c s_lt (sym e)))

    here' : child_under children' (get_or index' b 48) ≡ None
    here' = ap (child_under children') at_b' ∙ under-none children' 48 (omega arith)

    there' : (c : ℕ) → c ≢ b → child_under children' (get_or index' c 48) ≡ child_under children (get_or index c 48)
    there' c off =
        elim (cases_c c off) [
          | inl p ↦
              let n48 : n ≤ 48 = i.within in
              let l : length children ≡ 48 = i.long in
              let g : s < 48 = s_lt in
              let e : get_or children' s (Leaf 0) ≡ v = get_or-set_same children s v (Leaf 0) (omega arith) in
              ap (child_under children') p.1 ∙ under-some children' s g ∙ ap Some (e ∙ v_is) ∙ sym (under-some children last (omega arith)) ∙ ap (child_under children) (sym p.0)
          | inr p ↦ ap (child_under children') p.1 ∙ under-kept children s (get_or index c 48) v (λ l. off_s c off)
        ]

    gone_set : table index' children' ≡ set (table index children) b None
    gone_set = let w : length index ≡ 256 = i.wide in written index children index' children' b None (omega arith) same here' there'

    pub index_drops : DropsChild (edges_of (table index children)) (edges_of (table index' children')) b
    index_drops =
        let w : length index ≡ 256 = i.wide in
        let e : length (table index children) ≡ length index = length-table index children in
        subst (λ (t : List (Option Child)). DropsChild (edges_of (table index children)) (edges_of t) b) (sym gone_set) (table_drops (table index children) b (omega arith) some)

    fewer' : (0 < n) × Filled (n - 1) (table index' children')
    fewer' = filled-drops (table index children) (table index' children') n b (length-table index' children' ∙ same ∙ sym (length-table index children)) filled_of index_drops

    pub index_less : IsIndex last index' children'
    index_less =
        let n48 : n ≤ 48 = i.within in
        let sn : s < n = i.used b s_lt in
        let d : count_by is_some (table index' children') ≡ n - 1 = fewer'.1.counted in
        record {
          within = omega arith;
          wide = same ∙ i.wide;
          long = length-set children s v ∙ i.long;
          used = λ c h. elim (eqb_tells c b) [
            | inl p ↦ (let f : get_or index' c 48 ≡ 48 = ap (λ z. get_or index' z 48) p.1 ∙ at_b' in absurd (omega (arith, f, h)))
            | inr p ↦ elim (cases_c c p.1) [
              | inl q ↦ (let x : get_or index c 48 ≢ s = off_s c p.1 in let y : get_or index c 48 ≡ last = q.0 in let z : get_or index' c 48 ≡ s = q.1 in let k : s ≢ last = (λ r. x (y ∙ sym r)) in omega (arith, z, k, sn))
              | inr q ↦ (let z : get_or index' c 48 ≡ get_or index c 48 = q.1 in let k : get_or index c 48 < n = i.used c (omega (arith, z, h)) in let y : get_or index c 48 ≢ last = q.0 in omega (arith, z, k, y))
            ]
          ];
          apart = λ c d h e. elim (eqb_tells c b) [
            | inl p ↦ (let f : get_or index' c 48 ≡ 48 = ap (λ z. get_or index' z 48) p.1 ∙ at_b' in absurd (omega (arith, f, h)))
            | inr p ↦ elim (eqb_tells d b) [
              | inl q ↦ (let f : get_or index' d 48 ≡ 48 = ap (λ z. get_or index' z 48) q.1 ∙ at_b' in absurd (omega (arith, f, h, e)))
              | inr q ↦ elim (cases_c c p.1) [
                | inl x ↦ elim (cases_c d q.1) [
                  | inl y ↦ i.apart c d (let a : get_or index c 48 ≡ last = x.0 in omega arith) (x.0 ∙ sym y.0)
                  | inr y ↦ absurd (off_s d q.1 (sym y.1 ∙ sym e ∙ x.1))
                ]
                | inr x ↦ elim (cases_c d q.1) [
                  | inl y ↦ absurd (off_s c p.1 (sym x.1 ∙ e ∙ y.1))
                  | inr y ↦ i.apart c d (let a : get_or index' c 48 ≡ get_or index c 48 = x.1 in omega (arith, a, h)) (sym x.1 ∙ e ∙ y.1)
                ]
              ]
            ]
          ];
          counted = omega arith;
        }

-- the last child in the place of the removed child, as the code writes it
module _ (n : ℕ) (index : List ℕ) (children : List Child) (i : IsIndex n index children) (b : ℕ) (small : b < 256) (some : IsSome (child_at (edges_of (table index children)) b)) where
  pub gone_is : get_or index b 48 ≡ get_or index b 0
  gone_is = place_is n index children i b (Leaf 0) small some

  pub some_left : 0 < n
  some_left = let h : get_or index b 48 < n = i.used b (present n index children i b some) in omega arith

  module _ (index' : List ℕ) (d : Child) (same : length index' ≡ length (set index b 48)) (is : (c : ℕ) → get_or index' c 48 ≡ moved (n - 1) (get_or index b 0) (get_or (set index b 48) c 48)) where
    v_is : get_or children (n - 1) d ≡ get_or children (n - 1) (Leaf 0)
    v_is =
        let l : length children ≡ 48 = i.long in
        let w : n ≤ 48 = i.within in
        let k : 0 < n = some_left in
        get_or_default children (n - 1) d (Leaf 0) (omega arith)

    is48 : (c : ℕ) → get_or index' c 48 ≡ moved (n - 1) (get_or index b 48) (get_or (set index b 48) c 48)
    is48 c = is c ∙ ap (λ z. moved (n - 1) z (get_or (set index b 48) c 48)) (sym gone_is)

    left_is : (n - 1) + 1 ≡ n
    left_is = let k : 0 < n = some_left in omega arith

    pub dropped : DropsChild (edges_of (table index children)) (edges_of (table index' (set children (get_or index b 0) (get_or children (n - 1) d)))) b
    dropped = subst (λ z. DropsChild (edges_of (table index children)) (edges_of (table index' (set children z (get_or children (n - 1) d)))) b) gone_is
        (index_drops n index children i b (n - 1) index' (get_or children (n - 1) d) small some left_is v_is (same ∙ length-set index b 48) is48)

    pub fewer : IsIndex (n - 1) index' (set children (get_or index b 0) (get_or children (n - 1) d))
    fewer = subst (λ z. IsIndex (n - 1) index' (set children z (get_or children (n - 1) d))) gone_is
        (index_less n index children i b (n - 1) index' (get_or children (n - 1) d) small some left_is v_is (same ∙ length-set index b 48) is48)
