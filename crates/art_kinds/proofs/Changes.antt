-- The nodes of the four kinds, after a change of one record.
use Rattle.std.proofs.Common.{◌≡◌, ◌≢◌, ℕ, zero, suc, ◌+◌, ◌-◌, ◌*◌, ◌/◌, ◌%◌, ◌^◌, ◌<◌, ◌≤◌, List, length, Option, Some, None, IsSome, cond, refl, sym, ap, subst, ◌∙◌, inl, inr, arith}
use Rattle.std.specs.Option.{IsSomeAnd}
use Rattle.std.proofs.lemmas.Bool.{cases_eq}
use Rattle.art_kinds.specs.OneKinds.{FitsIn, IsOneKind, Rewires, Changes, Loses}
use Rattle.art_kinds.specs.Edges.{child_at, AddsChild, DropsChild, RedirectsChild}
use Rattle.art_kinds.specs.Nodes.{Node, Nodes, store_of, at, live, over, grown, floor, places, takes, figure, serves, HasPlace, Lowers, MoreSpares, SameSpares, AddsEdgeTo, Redirects, DropsEdge, Reprefixes, Frees}
use Rattle.art_kinds.specs.Numbers.{number, digit, digit-lt}
use Rattle.art_slots.specs.Store.{Store, slot_at, used_count, with_record}
use Rattle.art_kinds.specs.declared.records.ids.Child.{Child}
use Rattle.art_kinds.specs.declared.records.ids.Kind.{Kind}
use Rattle.art_kinds.specs.declared.records.ids.Kind.TheVariants.{Four, Sixteen, FortyEight, Full}
use Rattle.art_kinds.specs.declared.records.ids.Parts.{Parts}
use Rattle.art_slots.proofs.StoreSlots.{one, with-now, with-others, with-count, sum-least}
use Rattle.art_kinds.proofs.Rooms.{grown-change, serves-grown, serves-less}
use Rattle.art_kinds.proofs.Growing.{freed-spares}

-- what holds of an option holds of its value
pub holds_of : {X : Type 0} → (R : X → Type 0) (o : Option X) (x : X) → o ≡ Some x → IsSomeAnd o R → R x
holds_of R o x e h = subst (λ t. IsSomeAnd t R) e h

-- an option has a value if a statement holds of its value
pub some_such : {X : Type 0} → (R : X → Type 0) (o : Option X) → IsSomeAnd o R → IsSome o
some_such R None h = absurd h
some_such R (Some x) h = refl

-- a kind in which no node has more children than places
module _ {P : ℕ} {places : Option ℕ} {s : Store Node} (i : ℕ) {x : Node} (y : Node) (found : slot_at s i ≡ Some x) (v : IsOneKind P places s) where
  -- the same holds after a node was replaced by a node that fits
  pub kind_written : FitsIn places (length y.edges) → IsOneKind P places (with_record s i y)
  kind_written h = record { all = all; small = λ l. v.small (let u = with-count s i x y found in omega arith) }
    where
      all : (j : ℕ) (z : Node) → slot_at (with_record s i y) j ≡ Some z → FitsIn places (length z.edges)
      all j z e = elim (cases_eq j i) [
        | inl p ↦ (
            let q : Some z ≡ Some y = sym e ∙ ap (slot_at (with_record s i y)) p ∙ with-now s i x y found in
            let r : y ≡ z = cc in
            subst (λ (w : Node). FitsIn places (length w.edges)) r h)
        | inr p ↦ v.all j z (sym (with-others s i x y found j p) ∙ e)
      ]

-- fewer children fit as well
pub fits_less : (places : Option ℕ) (m n : ℕ) → m ≤ n → FitsIn places n → FitsIn places m
fits_less None m n l h = tt
fits_less (Some p) m n l h = omega (arith, l, h)

-- a node that is replaced changes as R says
pub changed : {R : Node → Node → Type 0} {s v : Store Node} → s ≡ v → (i : ℕ) {x z : Node} (y : Node)
    → slot_at s i ≡ Some x → z ≡ x → R z y → Changes R v (with_record s i y) i
changed {R} {s} {v} f i {x} {z} y found e so = record {
  was = z;
  was_is = ap (λ (t : Store Node). slot_at t i) (sym f) ∙ found ∙ ap Some (sym e);
  is = y;
  is_is = with-now s i x y found;
  so = so;
  others = λ j off. with-others s i x y found j off ∙ ap (λ (t : Store Node). slot_at t j) f;
  spare = ap (λ (t : Store Node). t.spare) f;
  used = with-count s i x y found ∙ ap (λ (t : Store Node). used_count t) f;
}

-- the nodes with another store for a kind
abbrev pub put : Nodes → Kind → Store Node → Nodes
put s Four a = record s { fours = a }
put s Sixteen a = record s { sixteens = a }
put s FortyEight a = record s { forty_eights = a }
put s Full a = record s { fulls = a }

-- the kind has the new store
pub put-on : (s : Nodes) (K : Kind) (a : Store Node) → store_of (put s K a) (digit K) ≡ a
put-on s Four a = refl
put-on s Sixteen a = refl
put-on s FortyEight a = refl
put-on s Full a = refl

-- the store of each other kind is unchanged
pub put-off : (s : Nodes) (K : Kind) (a : Store Node) (j : ℕ) → j < 4 → j ≢ digit K → store_of (put s K a) j ≡ store_of s j
put-off s Four a zero l off = absurd (off refl)
put-off s Four a (suc zero) l off = refl
put-off s Four a (suc (suc zero)) l off = refl
put-off s Four a (suc (suc (suc j))) l off = refl
put-off s Sixteen a zero l off = refl
put-off s Sixteen a (suc zero) l off = absurd (off refl)
put-off s Sixteen a (suc (suc zero)) l off = refl
put-off s Sixteen a (suc (suc (suc j))) l off = refl
put-off s FortyEight a zero l off = refl
put-off s FortyEight a (suc zero) l off = refl
put-off s FortyEight a (suc (suc zero)) l off = absurd (off refl)
put-off s FortyEight a (suc (suc (suc j))) l off = refl
put-off s Full a zero l off = refl
put-off s Full a (suc zero) l off = refl
put-off s Full a (suc (suc zero)) l off = refl
put-off s Full a (suc (suc (suc zero))) l off = absurd (off refl)
put-off s Full a (suc (suc (suc (suc j)))) l off = absurd (omega arith)

-- how many nodes there are then
pub put-live : (s : Nodes) (K : Kind) (a : Store Node) → live (put s K a) + used_count (store_of s (digit K)) ≡ live s + used_count a
put-live s Four a = omega arith
put-live s Sixteen a = omega arith
put-live s FortyEight a = omega arith
put-live s Full a = omega arith

-- if the number of spare records is unchanged for each kind, it is unchanged for each number
spare-any : (s t : Nodes) → ((j : ℕ) → j < 4 → (store_of t j).spare ≡ (store_of s j).spare) → (j : ℕ) → (store_of t j).spare ≡ (store_of s j).spare
spare-any s t h zero = h 0 (omega arith)
spare-any s t h (suc zero) = h 1 (omega arith)
spare-any s t h (suc (suc zero)) = h 2 (omega arith)
spare-any s t h (suc (suc (suc j))) = h 3 (omega arith)

-- a figure is unchanged if the numbers on which it depends are unchanged
figure-same : (s t : Nodes) (j : ℕ) → (store_of t (suc j)).spare ≡ (store_of s (suc j)).spare → grown (floor j) (store_of t j) ≡ grown (floor j) (store_of s j) → figure t (suc j) ≡ figure s (suc j)
figure-same s t j e g = ap (λ m. serves m (takes j) (grown (floor j) (store_of t j))) e ∙ ap (serves (store_of s (suc j)).spare (takes j)) g

figure-less : (s t : Nodes) (j : ℕ) → (store_of t (suc j)).spare ≡ (store_of s (suc j)).spare → grown (floor j) (store_of t j) ≤ grown (floor j) (store_of s j) → figure s (suc j) ≤ figure t (suc j)
figure-less s t j e g =
    let h : serves (store_of s (suc j)).spare (takes j) (grown (floor j) (store_of s j)) ≤ serves (store_of s (suc j)).spare (takes j) (grown (floor j) (store_of t j)) = serves-less (store_of s (suc j)).spare (takes j) (grown (floor j) (store_of s j)) (grown (floor j) (store_of t j)) g in
    subst (λ m. figure s (suc j) ≤ serves m (takes j) (grown (floor j) (store_of t j))) (sym e) h

figure-grown : (s t : Nodes) (j : ℕ) → (store_of t (suc j)).spare ≡ (store_of s (suc j)).spare → grown (floor j) (store_of t j) ≤ grown (floor j) (store_of s j) + 1 → figure s (suc j) ≤ figure t (suc j) + 1
figure-grown s t j e g =
    let h : serves (store_of s (suc j)).spare (takes j) (grown (floor j) (store_of s j)) ≤ serves (store_of s (suc j)).spare (takes j) (grown (floor j) (store_of t j)) + 1 = serves-grown (store_of s (suc j)).spare (takes j) (grown (floor j) (store_of s j)) (grown (floor j) (store_of t j)) g in
    subst (λ m. figure s (suc j) ≤ serves m (takes j) (grown (floor j) (store_of t j)) + 1) (sym e) h

-- the figures, if one record of a kind changes
module _ (s t : Nodes) (d i : ℕ) (l : d < 4) (same : (j : ℕ) → j < 4 → j ≢ d → store_of t j ≡ store_of s j) (others : (j : ℕ) → j ≢ i → slot_at (store_of t d) j ≡ slot_at (store_of s d) j) (spares : (store_of t d).spare ≡ (store_of s d).spare) (x y : Node) (was : slot_at (store_of s d) i ≡ Some x) (is : slot_at (store_of t d) i ≡ Some y) where
  spare_all : (j : ℕ) → (store_of t j).spare ≡ (store_of s j).spare
  spare_all = spare-any s t (λ j lt. elim (cases_eq j d) [
    | inl p ↦ ap (λ k. (store_of t k).spare) p ∙ spares ∙ sym (ap (λ k. (store_of s k).spare) p)
    | inr p ↦ ap (λ (u : Store Node). u.spare) (same j lt p)
  ])

  -- how the change changes the number of edges above the floor
  change : grown (floor d) (store_of t d) + over (floor d) (Some x) ≡ grown (floor d) (store_of s d) + over (floor d) (Some y)
  change =
      let e : grown (floor d) (store_of t d) + over (floor d) (slot_at (store_of s d) i) ≡ grown (floor d) (store_of s d) + over (floor d) (slot_at (store_of t d) i) = grown-change (floor d) (store_of s d) (store_of t d) i others in
      let a : over (floor d) (slot_at (store_of s d) i) ≡ over (floor d) (Some x) = ap (over (floor d)) was in
      let b : over (floor d) (slot_at (store_of t d) i) ≡ over (floor d) (Some y) = ap (over (floor d)) is in
      omega arith

  -- each other figure is unchanged
  off_figure : (j : ℕ) → j < 4 → j ≢ suc d → figure t j ≡ figure s j
  off_figure zero lt off = spare_all 0
  off_figure (suc j) lt off = figure-same s t j (spare_all (suc j)) (ap (grown (floor j)) (same j (omega arith) (λ e. off (omega (arith, e)))))

  pub lowers_in : length y.edges ≤ length x.edges + 1 → Lowers (suc d) s t
  lowers_in h =
      let c : grown (floor d) (store_of t d) + (length x.edges - floor d) ≡ grown (floor d) (store_of s d) + (length y.edges - floor d) = change in
      record {
        this = figure-grown s t d (spare_all (suc d)) (omega arith);
        others = λ j lt off. (let e : figure t j ≡ figure s j = off_figure j lt off in omega arith);
      }

  pub more_in : length y.edges ≤ length x.edges → MoreSpares s t
  more_in h j lt =
      let c : grown (floor d) (store_of t d) + (length x.edges - floor d) ≡ grown (floor d) (store_of s d) + (length y.edges - floor d) = change in
      elim (cases_eq j (suc d)) [
        | inl p ↦ subst (λ z. figure s z ≤ figure t z) (sym p) (figure-less s t d (spare_all (suc d)) (omega arith))
        | inr p ↦ (let e : figure t j ≡ figure s j = off_figure j lt p in omega arith)
      ]

  pub same_in : length y.edges ≡ length x.edges → SameSpares s t
  same_in h j lt =
      let c : grown (floor d) (store_of t d) + (length x.edges - floor d) ≡ grown (floor d) (store_of s d) + (length y.edges - floor d) = change in
      elim (cases_eq j (suc d)) [
        | inl p ↦ (let e : figure t (suc d) ≡ figure s (suc d) = figure-same s t d (spare_all (suc d)) (omega arith) in subst (λ z. figure t z ≡ figure s z) (sym p) e)
        | inr p ↦ off_figure j lt p
      ]

-- the place of a number
pub place_of : (w : Parts) (n : ℕ) → number w ≡ n → n / 4 ≡ w.place
place_of w n e =
    let l : digit w.kind < 4 = digit-lt w.kind in
    let z : 4 * w.place + digit w.kind ≡ n = e in
    omega arith

-- what holds of x holds of an option with x
pub such : {X : Type 0} → (R : X → Type 0) (o : Option X) (x : X) → o ≡ Some x → R x → IsSomeAnd o R
such R o x e h = subst (λ t. IsSomeAnd t R) (sym e) h

-- a number of a kind
module _ (w : Parts) {n : ℕ} (e : number w ≡ n) {K : Kind} (k : w.kind ≡ K) where
  -- its digit is the digit of the kind
  pub digit_of : n % 4 ≡ digit K
  digit_of =
      let l : digit w.kind < 4 = digit-lt w.kind in
      let d : digit w.kind ≡ digit K = ap digit k in
      let z : 4 * w.place + digit w.kind ≡ n = e in
      omega arith

  -- the node under it is in the store of the kind
  pub found_in : (v : Nodes) → at v n ≡ slot_at (store_of v (digit K)) w.place
  found_in v = ap (λ j. slot_at (store_of v j) (n / 4)) digit_of ∙ ap (slot_at (store_of v (digit K))) (place_of w n e)

-- a number of a kind, in nodes that a contract sees
module _ {s v : Nodes} (f : s ≡ v) (w : Parts) {n : ℕ} (e : number w ≡ n) {K : Kind} (k : w.kind ≡ K) where
  -- the node under it
  pub found_at : at v n ≡ slot_at (store_of s (digit K)) w.place
  found_at = sym (ap (λ (t : Nodes). at t n) f) ∙ found_in w e k s

  -- what holds of the node under it holds of the node in the store
  pub holds_at : (R : Option Node → Type 0) → R (at v n) → R (slot_at (store_of s (digit K)) w.place)
  holds_at R h = subst R found_at h

  -- the kind has another store, in which the other nodes are unchanged
  module _ (a : Store Node) (others : (j : ℕ) → j ≢ w.place → slot_at a j ≡ slot_at (store_of s (digit K)) j) where
    -- the node under each other number is unchanged
    others_at : (m : ℕ) → m ≢ n → at (put s K a) m ≡ at v m
    others_at m off =
        let z : 4 * w.place + digit w.kind ≡ n = e in
        let d : digit w.kind ≡ digit K = ap digit k in
        elim (cases_eq (m % 4) (digit K)) [
          | inl p ↦ (
              let far : m / 4 ≢ w.place = λ r. off (omega arith) in
              ap (λ j. slot_at (store_of (put s K a) j) (m / 4)) p ∙ ap (λ (t : Store Node). slot_at t (m / 4)) (put-on s K a) ∙ others (m / 4) far
              ∙ sym (ap (λ j. slot_at (store_of s j) (m / 4)) p))
          | inr p ↦ ap (λ (u : Store Node). slot_at u (m / 4)) (put-off s K a (m % 4) (omega arith) p)
        ] ∙ ap (λ (u : Nodes). at u m) f

    -- the node under the number then
    now_at : at (put s K a) n ≡ slot_at a w.place
    now_at = found_in w e k (put s K a) ∙ ap (λ (t : Store Node). slot_at t w.place) (put-on s K a)

    -- the other nodes in the store of the kind are unchanged
    others_put : (j : ℕ) → j ≢ w.place → slot_at (store_of (put s K a) (digit K)) j ≡ slot_at (store_of s (digit K)) j
    others_put j off = ap (λ (t : Store Node). slot_at t j) (put-on s K a) ∙ others j off

  module _ {a : Store Node} where
    -- a node is removed
    pub frees : Loses (store_of s (digit K)) a w.place → Frees (at v) (at (put s K a)) n
    frees h = record { gone = now_at a h.others ∙ h.gone; others = others_at a h.others }

    -- there is one node less
    pub live-less : Loses (store_of s (digit K)) a w.place → live (put s K a) + 1 ≡ live v
    live-less h = let l : live (put s K a) + 1 ≡ live s = omega (arith, put-live s K a, h.used) in l ∙ ap (λ (z : Nodes). live z) f

    -- no figure falls then
    pub frees-spares : Loses (store_of s (digit K)) a w.place → MoreSpares v (put s K a)
    frees-spares h =
        let gone = ap (λ (t : Store Node). slot_at t w.place) (put-on s K a) ∙ h.gone in
        let spare = ap (λ (t : Store Node). t.spare) (put-on s K a) ∙ h.spare in
        let r : MoreSpares s (put s K a) = freed-spares s (put s K a) (digit K) w.place (digit-lt K) (put-off s K a) gone (others_put a h.others) spare in
        subst (λ (u : Nodes). MoreSpares u (put s K a)) f r

    -- an edge is added
    pub adds : {b : ℕ} {to : Child} → IsSomeAnd (at v n) (λ x. child_at x.edges b ≡ None)
        → Changes (Rewires (λ p q. AddsChild p q b to)) (store_of s (digit K)) a w.place → AddsEdgeTo (at v) (at (put s K a)) n b to
    adds {b} {to} absent h = record {
      was = h.was;
      was_is = found_at ∙ h.was_is;
      is = h.is;
      is_is = now_at a h.others ∙ h.is_is;
      depth = h.so.depth;
      prefix = h.so.prefix;
      absent = holds_of (λ x. child_at x.edges b ≡ None) (at v n) h.was (found_at ∙ h.was_is) absent;
      edges = h.so.edges;
      others = others_at a h.others;
    }

    -- an edge is removed
    pub drops : {b : ℕ} → Changes (Rewires (λ p q. DropsChild p q b)) (store_of s (digit K)) a w.place → DropsEdge (at v) (at (put s K a)) n b
    drops h = record {
      was = h.was;
      was_is = found_at ∙ h.was_is;
      is = h.is;
      is_is = now_at a h.others ∙ h.is_is;
      depth = h.so.depth;
      prefix = h.so.prefix;
      edges = h.so.edges;
      others = others_at a h.others;
    }

    -- an edge is redirected
    pub redirects : {b : ℕ} {to : Child} → Changes (Rewires (λ p q. RedirectsChild p q b to)) (store_of s (digit K)) a w.place
        → Redirects (at v) (at (put s K a)) n b to
    redirects h = record {
      was = h.was;
      was_is = found_at ∙ h.was_is;
      is = h.is;
      is_is = now_at a h.others ∙ h.is_is;
      depth = h.so.depth;
      prefix = h.so.prefix;
      now = h.so.edges.now;
      rest = h.so.edges.rest;
      same_length = h.so.edges.same_length;
      ascends = h.so.edges.ascends;
      others = others_at a h.others;
    }

    -- a node has another prefix
    pub reprefixes : {prefix : List ℕ} → Changes (λ x y. y ≡ record x { prefix = prefix }) (store_of s (digit K)) a w.place
        → Reprefixes (at v) (at (put s K a)) n prefix
    reprefixes h = record {
      was = h.was;
      was_is = found_at ∙ h.was_is;
      is_is = now_at a h.others ∙ h.is_is ∙ ap Some h.so;
      others = others_at a h.others;
    }

    -- a node changes
    module _ {R : Node → Node → Type 0} (h : Changes R (store_of s (digit K)) a w.place) where
      on : store_of (put s K a) (digit K) ≡ a
      on = put-on s K a

      is_on : slot_at (store_of (put s K a) (digit K)) w.place ≡ Some h.is
      is_on = ap (λ (u : Store Node). slot_at u w.place) on ∙ h.is_is

      spare_on : (store_of (put s K a) (digit K)).spare ≡ (store_of s (digit K)).spare
      spare_on = ap (λ (u : Store Node). u.spare) on ∙ h.spare

      -- the number of nodes is unchanged
      pub live-same : live (put s K a) ≡ live v
      live-same = let l : live (put s K a) ≡ live s = omega (arith, put-live s K a, h.used) in l ∙ ap (λ (z : Nodes). live z) f

      -- one more edge lowers the figure of the next kind by at most one
      pub lowers : length h.is.edges ≡ length h.was.edges + 1 → Lowers (n % 4 + 1) v (put s K a)
      lowers q =
          let m : suc (digit K) ≡ n % 4 + 1 = (let d : n % 4 ≡ digit K = digit_of w e k in omega arith) in
          let c = lowers_in s (put s K a) (digit K) w.place (digit-lt K) (put-off s K a) (others_put a h.others) spare_on in
          let r : Lowers (suc (digit K)) s (put s K a) = c h.was h.is h.was_is is_on (omega (arith, q)) in
          subst (λ z. Lowers z v (put s K a)) m (subst (λ (u : Nodes). Lowers (suc (digit K)) u (put s K a)) f r)

      -- one edge less lowers no figure
      pub more : length h.is.edges + 1 ≡ length h.was.edges → MoreSpares v (put s K a)
      more q =
          let c = more_in s (put s K a) (digit K) w.place (digit-lt K) (put-off s K a) (others_put a h.others) spare_on in
          let r : MoreSpares s (put s K a) = c h.was h.is h.was_is is_on (omega (arith, q)) in
          subst (λ (u : Nodes). MoreSpares u (put s K a)) f r

      -- if there are as many edges, the figures are unchanged
      pub stands : length h.is.edges ≡ length h.was.edges → SameSpares v (put s K a)
      stands q =
          let c = same_in s (put s K a) (digit K) w.place (digit-lt K) (put-off s K a) (others_put a h.others) spare_on in
          let r : SameSpares s (put s K a) = c h.was h.is h.was_is is_on q in
          subst (λ (u : Nodes). SameSpares u (put s K a)) f r

    -- ---- what a call does to all

    pub freed_all : Loses (store_of s (digit K)) a w.place → Frees (at v) (at (put s K a)) n × (live (put s K a) + 1 ≡ live v) × MoreSpares v (put s K a)
    freed_all h = (frees h, live-less h, frees-spares h)

    pub added_all : {b : ℕ} {to : Child} → IsSomeAnd (at v n) (λ x. child_at x.edges b ≡ None) → Changes (Rewires (λ p q. AddsChild p q b to)) (store_of s (digit K)) a w.place
        → AddsEdgeTo (at v) (at (put s K a)) n b to × Lowers (n % 4 + 1) v (put s K a) × (live (put s K a) ≡ live v)
    added_all absent h = (adds absent h, lowers h h.so.edges.longer, live-same h)

    pub dropped_all : {b : ℕ} → Changes (Rewires (λ p q. DropsChild p q b)) (store_of s (digit K)) a w.place → DropsEdge (at v) (at (put s K a)) n b × MoreSpares v (put s K a) × (live (put s K a) ≡ live v)
    dropped_all h = (drops h, more h h.so.edges.shorter, live-same h)

    pub redirected_all : {b : ℕ} {to : Child} → Changes (Rewires (λ p q. RedirectsChild p q b to)) (store_of s (digit K)) a w.place
        → Redirects (at v) (at (put s K a)) n b to × SameSpares v (put s K a) × (live (put s K a) ≡ live v)
    redirected_all h = (redirects h, stands h h.so.edges.same_length, live-same h)

    pub reprefixed_all : {prefix : List ℕ} → Changes (λ x y. y ≡ record x { prefix = prefix }) (store_of s (digit K)) a w.place
        → Reprefixes (at v) (at (put s K a)) n prefix × SameSpares v (put s K a) × (live (put s K a) ≡ live v)
    reprefixed_all h = (reprefixes h, stands h (ap (λ (x : Node). length x.edges) h.so), live-same h)

-- for how many children a kind has places, if their number is limited
abbrev pub limit : Kind → Option ℕ
limit Four = Some 4
limit Sixteen = Some 16
limit FortyEight = Some 48
limit Full = None

-- a node that has a place for one more edge fits its kind with one more edge
pub room_of : {s v : Nodes} → s ≡ v → (w : Parts) {n : ℕ} → number w ≡ n → {K : Kind} → w.kind ≡ K
    → (b : ℕ) → IsSomeAnd (at v n) (λ x. child_at x.edges b ≡ None) → HasPlace v n
    → IsSomeAnd (slot_at (store_of s (digit K)) w.place) (λ x. FitsIn (limit K) (length x.edges + 1))
room_of {s} {v} f w {n} e {K} k b some h = by_node (at v n) refl some
  where
    fits : (L : Kind) (x : Node) → (digit L < 3 → length x.edges < places (digit L)) → FitsIn (limit L) (length x.edges + 1)
    fits Four x q = let l : length x.edges < 4 = q (omega arith) in omega arith
    fits Sixteen x q = let l : length x.edges < 16 = q (omega arith) in omega arith
    fits FortyEight x q = let l : length x.edges < 48 = q (omega arith) in omega arith
    fits Full x q = tt

    by_node : (o : Option Node) → at v n ≡ o → IsSomeAnd o (λ x. child_at x.edges b ≡ None)
        → IsSomeAnd (slot_at (store_of s (digit K)) w.place) (λ x. FitsIn (limit K) (length x.edges + 1))
    by_node None is z = absurd z
    by_node (Some x) is z =
        let m : n % 4 ≡ digit K = digit_of w e k in
        let q : digit K < 3 → length x.edges < places (digit K) = λ l. subst (λ d. length x.edges < places d) m (h x is (omega (arith, m, l))) in
        such (λ y. FitsIn (limit K) (length y.edges + 1)) (slot_at (store_of s (digit K)) w.place) x (sym (found_at f w e k) ∙ is) (fits K x q)

-- if there is a node, P is small
pub small_live : {P : ℕ} {l : Option ℕ} {a : Store Node} → IsOneKind P l a → (i : ℕ) → IsSome (slot_at a i) → P < 2 ^ 62
small_live {P} {l} {a} v i h =
    let m : one (slot_at a i) ≤ used_count a = sum-least one refl a.slots i in
    let k : one (slot_at a i) ≡ 1 = ap (λ b. cond b 1 0) h in
    v.small (omega arith)

-- the same, if something holds of the node
pub small_in : {P : ℕ} {l : Option ℕ} {a : Store Node} → IsOneKind P l a → (i : ℕ) (R : Node → Type 0) → IsSomeAnd (slot_at a i) R → P < 2 ^ 62
small_in {P} {l} {a} v i R h = small_live v i (some_such R (slot_at a i) h)

-- P is small, and the node is in the store of its kind
pub found_small : {s v : Nodes} (f : s ≡ v) (w : Parts) {n : ℕ} (e : number w ≡ n) {K : Kind} (k : w.kind ≡ K) {P : ℕ} {l : Option ℕ} → IsOneKind P l (store_of s (digit K)) → (R : Node → Type 0) → IsSomeAnd (at v n) R
    → (P < 2 ^ 62) × IsSomeAnd (slot_at (store_of s (digit K)) w.place) R
found_small f w e k v R h = let there = holds_at f w e k (λ (o : Option Node). IsSomeAnd o R) h in (small_in v w.place R there, there)
