-- Nodes that are only below one of them are taken apart: one is freed, or a child rotated above it.
use Rattle.std.proofs.Common.{◌≡◌, ◌≢◌, ℕ, zero, suc, ◌<◌, ◌≤◌, length, Bool, true, false, refl, ap, arith, sym, subst, Option, Some, None, IsSome, ◌∙◌, ◌⊎◌, inl, inr, cond, eqb, eq-eqb}
use Rattle.std.proofs.lemmas.Bool.{false≢true}
use Rattle.std.proofs.lemmas.Bool.Decides.{eqb_tells}
use Rattle.art_kinds.specs.Nodes.{Node, Redirects, Frees}
use Rattle.art_tree.specs.Calls.Pruning.{Loose, LeadsIn, IsNotLast}
use Rattle.art_kinds.specs.Edges.{child_at}
use Rattle.art_kinds.specs.declared.records.ids.Child.{Child}
use Rattle.art_kinds.specs.declared.records.ids.Child.TheVariants.{Inner}
use Rattle.blart_keys.proofs.Options.{is_some, some_of, same_some}
use Rattle.art_tree.proofs.Invariant.Prefixes.{live_after}

-- ---- a node that is no longer fresh

abbrev less : (ℕ → Bool) → ℕ → ℕ → Bool
less fresh n j = cond (eqb j n) false (fresh j)

less_from : (fresh : ℕ → Bool) (n j : ℕ) → less fresh n j ≡ true → (fresh j ≡ true) × (j ≢ n)
less_from fresh n j f = elim (eqb_tells j n) [
  | inl e ↦ absurd (false≢true (sym (ap (λ t. cond t false (fresh j)) e.0) ∙ f))
  | inr e ↦ (sym (ap (λ t. cond t false (fresh j)) e.0) ∙ f, e.1)
]

less_to : (fresh : ℕ → Bool) (n j : ℕ) → j ≢ n → fresh j ≡ true → less fresh n j ≡ true
less_to fresh n j off f = elim (eqb_tells j n) [ inl e ↦ absurd (off e.1) | inr e ↦ ap (λ t. cond t false (fresh j)) e.0 ∙ f ]

-- ---- the edge of the node n by the byte b is redirected

module _ {old new : ℕ → Option Node} {n b : ℕ} {to : Child} (red : Redirects old new n b to) where
  -- what a node was before
  record Was (m : ℕ) (y : Node) : Type 0 where
    pub node : Node
    pub is : old m ≡ Some node
    pub depth : y.depth ≡ node.depth
    pub long : length y.edges ≡ length node.edges
    pub rest : (e : ℕ) → (m ≡ n → e ≢ b) → child_at y.edges e ≡ child_at node.edges e
    pub had : IsSome (child_at red.was.edges b) → (e : ℕ) → IsSome (child_at y.edges e) → IsSome (child_at node.edges e)

  was_node : (m : ℕ) (y : Node) → new m ≡ Some y → Was m y
  was_node m y is = elim (eqb_tells m n) [
    | inl h ↦
        let f : new n ≡ Some y = ap new (sym h.1) ∙ is in
        let g : new n ≡ Some red.is = red.is_is in
        let same : y ≡ red.is = cc in
        record {
          node = red.was;
          is = ap old h.1 ∙ red.was_is;
          depth = ap (λ (z : Node). z.depth) same ∙ red.depth;
          long = ap (λ (z : Node). length z.edges) same ∙ red.same_length;
          rest = λ e far. ap (λ (z : Node). child_at z.edges e) same ∙ red.rest e (far h.1);
          had = λ some e k. elim (eqb_tells e b) [
            | inl t ↦ subst (λ (z : ℕ). IsSome (child_at red.was.edges z)) (sym t.1) some
            | inr t ↦ same_some (child_at y.edges e) (child_at red.was.edges e) (ap (λ (z : Node). child_at z.edges e) same ∙ red.rest e t.1) k
          ];
        }
    | inr h ↦ record { node = y; is = sym (red.others m h.1) ∙ is; depth = refl; long = refl; rest = λ e far. refl; had = λ some e k. k }
  ]

  lives_on : (m : ℕ) → IsSome (old m) → IsSome (new m)
  lives_on = live_after old new n red.was red.is red.was_is red.is_is red.others

  -- an edge is the redirected one, or led to the same node before
  led : (m e x : ℕ) → LeadsIn new m e x → ((m ≡ n) × (e ≡ b) × (to ≡ Inner x)) ⊎ (LeadsIn old m e x × (m ≡ n → e ≢ b))
  led m e x l =
      let w = was_node m l.0 l.1 in
      let stays : (m ≡ n → e ≢ b) → LeadsIn old m e x × (m ≡ n → e ≢ b) = λ far. ((w.node, w.is, sym (w.rest e far) ∙ l.2), far) in
      elim (eqb_tells m n) [
        | inl h ↦ elim (eqb_tells e b) [
          | inl t ↦
              let f : new n ≡ Some l.0 = ap new (sym h.1) ∙ l.1 in
              let g : new n ≡ Some red.is = red.is_is in
              let same : l.0 ≡ red.is = cc in
              let z : Some to ≡ Some (Inner x) = sym red.now ∙ ap (child_at red.is.edges) (sym t.1) ∙ ap (λ (y : Node). child_at y.edges e) (sym same) ∙ l.2 in
              inl (h.1, t.1, cc)
          | inr t ↦ inr (stays (λ _. t.1))
        ]
        | inr h ↦ inr (stays (λ k. absurd (h.1 k)))
      ]

  -- each other old edge is there
  leads_on : (m e x : ℕ) → LeadsIn old m e x → (m ≡ n → e ≢ b) → LeadsIn new m e x
  leads_on m e x l far =
      let y = some_of (new m) (lives_on m (is_some (old m) l.0 l.1)) in
      let w = was_node m y.0 y.1 in
      let f : old m ≡ Some w.node = w.is in
      let g : old m ≡ Some l.0 = l.1 in
      let same : w.node ≡ l.0 = cc in
      (y.0, y.1, w.rest e far ∙ ap (λ (z : Node). child_at z.edges e) same ∙ l.2)

module _ (goes : ℕ → Bool) (before nodes nodes' : ℕ → Option Node) (head : ℕ) (s : Loose goes before nodes head) where
  off_head : (j : ℕ) → goes j ≡ false → j ≢ head
  off_head j f e = false≢true (sym f ∙ ap goes e ∙ s.own)

  -- ---- the head is freed, and all its edges lead to leaves: then all nodes are freed
  module _ (frees : Frees nodes nodes' head) (leaves : (y : Node) (b x : ℕ) → nodes head ≡ Some y → child_at y.edges b ≡ Some (Inner x) → ⊥) where
    none_left : (r n : ℕ) → s.rank n ≤ r → IsSome (nodes n) → goes n ≡ true → n ≢ head → ⊥
    none_left zero n le h g off = elim (s.covered n h g) [
      | inl e ↦ off e
      | inr p ↦ let d = s.down p.0 p.1 n p.2 p.3 in let lt : s.rank p.0 < s.rank n = d.2 in absurd (omega arith)
    ]
    none_left (suc r) n le h g off = elim (s.covered n h g) [
      | inl e ↦ off e
      | inr p ↦ elim (eqb_tells p.0 head) [
        | inl e ↦ leaves p.3.0 p.1 n (ap nodes (sym e.1) ∙ p.3.1) p.3.2
        | inr e ↦
            let d = s.down p.0 p.1 n p.2 p.3 in
            let lt : s.rank p.0 < s.rank n = d.2 in
            none_left r p.0 (omega arith) (is_some (nodes p.0) p.3.0 p.3.1) p.2 e.1
      ]
    ]

    pub all_gone : (j : ℕ) → goes j ≡ true → nodes' j ≡ None
    all_gone j g = elim (eqb_tells j head) [
      | inl e ↦ ap nodes' e.1 ∙ frees.gone
      | inr e ↦ frees.others j e.1 ∙ none j (nodes j) refl g e.1
    ]
      where
        none : (j : ℕ) (o : Option Node) → nodes j ≡ o → goes j ≡ true → j ≢ head → nodes j ≡ None
        none j None e g off = e
        none j (Some y) e g off = absurd (none_left (s.rank j) j (omega arith) (is_some (nodes j) y e) g off)

    pub all_kept : (j : ℕ) → goes j ≡ false → nodes' j ≡ before j
    all_kept j f = frees.others j (off_head j f) ∙ s.kept j f

  -- ---- the head is freed, and one of its edges leads to a node, which becomes the head
  module _ (b0 x0 : ℕ) (was : Node) (was_is : nodes head ≡ Some was) (there : child_at was.edges b0 ≡ Some (Inner x0)) (only : (d x : ℕ) → child_at was.edges d ≡ Some (Inner x) → d ≡ b0) (frees : Frees nodes nodes' head) where
    to_next : LeadsIn nodes head b0 x0
    to_next = (was, was_is, there)

    next_other : x0 ≢ head
    next_other e = s.headless head b0 s.own (subst (λ (n : ℕ). LeadsIn nodes head b0 n) e to_next)

    off_gone : (m : ℕ) (y : Node) → nodes' m ≡ Some y → m ≢ head
    off_gone m y is e = let f : nodes' head ≡ Some y = ap nodes' (sym e) ∙ is in let g : nodes' head ≡ None = frees.gone in let z : None ≡ Some y = sym g ∙ f in cc

    stood : (m : ℕ) (y : Node) → nodes' m ≡ Some y → nodes m ≡ Some y
    stood m y is = sym (frees.others m (off_gone m y is)) ∙ is

    still : (m : ℕ) → m ≢ head → IsSome (nodes m) → IsSome (nodes' m)
    still m off h = let x = some_of (nodes m) h in is_some (nodes' m) x.0 (frees.others m off ∙ x.1)

    not_next : (m b x : ℕ) → goes m ≡ true → LeadsIn nodes' m b x → x ≢ x0
    not_next m b x g l e = off_gone m l.0 l.1 (s.once m b head b0 x0 g s.own (l.0, stood m l.0 l.1, l.2 ∙ ap (λ (n : ℕ). Some (Inner n)) e) to_next).0

    pub head_gone : Loose goes before nodes' x0
    head_gone = record {
      fresh = less s.fresh x0;
      rank = s.rank;
      kept = λ j f. frees.others j (off_head j f) ∙ s.kept j f;
      live = still x0 next_other (s.down head b0 x0 s.own to_next).0;
      own = (s.down head b0 x0 s.own to_next).1;
      some = λ m y is g. s.some m y (stood m y is) g;
      down = λ m b x g l.
          let k : LeadsIn nodes m b x = (l.0, stood m l.0 l.1, l.2) in
          let d = s.down m b x g k in
          (still x (λ e. s.headless m b g (subst (λ (n : ℕ). LeadsIn nodes m b n) e k)) d.0, d.1, d.2);
      once = λ m b n d x g h l k. s.once m b n d x g h (l.0, stood m l.0 l.1, l.2) (k.0, stood n k.0 k.1, k.2);
      headless = λ m b g l. not_next m b x0 g l refl;
      covered = λ n h g.
          let y = some_of (nodes' n) h in
          elim (s.covered n (is_some (nodes n) y.0 (stood n y.0 y.1)) g) [
            | inl e ↦ absurd (off_gone n y.0 y.1 e)
            | inr p ↦ elim (eqb_tells p.0 head) [
              | inl e ↦
                  let f : nodes head ≡ Some p.3.0 = ap nodes (sym e.1) ∙ p.3.1 in
                  let same : p.3.0 ≡ was = cc in
                  let low : child_at was.edges p.1 ≡ Some (Inner n) = ap (λ (y : Node). child_at y.edges p.1) (sym same) ∙ p.3.2 in
                  let z : Some (Inner n) ≡ Some (Inner x0) = sym low ∙ ap (child_at was.edges) (only p.1 n low) ∙ there in
                  inl cc
              | inr e ↦ inr (p.0, p.1, p.2, (p.3.0, frees.others p.0 e.1 ∙ p.3.1, p.3.2))
            ]
          ];
      deeper = λ m b x y z g is low xz way.
          let way' : (s.fresh m ≡ true) ⊎ IsNotLast y.edges b = elim way [ inl f ↦ inl (less_from s.fresh x0 m f).0 | inr d ↦ inr d ] in
          let r = s.deeper m b x y z g (stood m y is) low (stood x z xz) way' in
          (less_to s.fresh x0 x (not_next m b x g (y, is, low)) r.0, r.1);
    }

  -- ---- a child is rotated above the head: they exchange places, and the head gets its last child
  module _ (mid : ℕ → Option Node) (b0 c bl : ℕ) (d : Child) (turns : Redirects nodes mid head b0 d) (raises : Redirects mid nodes' c bl (Inner head))
      (high : child_at turns.was.edges b0 ≡ Some (Inner c)) (has_next : IsNotLast turns.was.edges b0) (low : child_at raises.was.edges bl ≡ Some d) (last : (e : ℕ) → bl < e → child_at raises.was.edges e ≡ None) where
    to_child : LeadsIn nodes head b0 c
    to_child = (turns.was, turns.was_is, high)

    child_down : IsSome (nodes c) × (goes c ≡ true) × (s.rank head < s.rank c)
    child_down = s.down head b0 c s.own to_child

    child_off : c ≢ head
    child_off e = s.headless head b0 s.own (subst (λ (n : ℕ). LeadsIn nodes head b0 n) e to_child)

    child_was : nodes c ≡ Some raises.was
    child_was = sym (turns.others c child_off) ∙ raises.was_is

    child_fresh : (s.fresh c ≡ true) × (turns.was.depth < raises.was.depth)
    child_fresh = s.deeper head b0 c turns.was raises.was s.own turns.was_is high child_was (inr has_next)

    head_now : nodes' head ≡ Some turns.is
    head_now = raises.others head (λ e. child_off (sym e)) ∙ turns.is_is

    was_child : (m : ℕ) (y : Node) → m ≡ c → nodes m ≡ Some y → y ≡ raises.was
    was_child m y e is = let f : nodes c ≡ Some y = ap nodes (sym e) ∙ is in let g : nodes c ≡ Some raises.was = child_was in cc

    was_head : (m : ℕ) (y : Node) → m ≡ head → nodes m ≡ Some y → y ≡ turns.was
    was_head m y e is = let f : nodes head ≡ Some y = ap nodes (sym e) ∙ is in let g : nodes head ≡ Some turns.was = turns.was_is in cc

    -- the change of a node
    turned : (m : ℕ) (y' : Node) → nodes' m ≡ Some y' → (y : Node) × (nodes m ≡ Some y) × (y'.depth ≡ y.depth) × (length y'.edges ≡ length y.edges) × ((e : ℕ) → IsSome (child_at y'.edges e) → IsSome (child_at y.edges e))
    turned m y' is =
        let v = was_node raises m y' is in
        let w = was_node turns m v.node v.is in
        (w.node, w.is, v.depth ∙ w.depth, v.long ∙ w.long, λ e h. w.had (is_some (child_at turns.was.edges b0) (Inner c) high) e (v.had (is_some (child_at raises.was.edges bl) d low) e h))

    live_on : (m : ℕ) → IsSome (nodes m) → IsSome (nodes' m)
    live_on m h = lives_on raises m (lives_on turns m h)

    -- an edge leads from the child to the head, from the head to the old last child, or as before
    came : (m b x : ℕ) → LeadsIn nodes' m b x → ((m ≡ c) × (b ≡ bl) × (x ≡ head)) ⊎ (((m ≡ head) × (b ≡ b0) × LeadsIn nodes c bl x) ⊎ (LeadsIn nodes m b x × (m ≡ c → b ≢ bl) × (m ≡ head → b ≢ b0)))
    came m b x l = elim (led raises m b x l) [
      | inl h ↦ (let e : Inner head ≡ Inner x = h.2 in inl (h.0, h.1, cc))
      | inr u ↦ elim (led turns m b x u.0) [
        | inl h ↦ inr (inl (h.0, h.1, (raises.was, child_was, low ∙ ap (λ (z : Child). Some z) h.2)))
        | inr v ↦ inr (inr (v.0, u.1, v.1))
      ]
    ]

    -- and each other old edge is there
    gone_to : (m b x : ℕ) → LeadsIn nodes m b x → (m ≡ c → b ≢ bl) → (m ≡ head → b ≢ b0) → LeadsIn nodes' m b x
    gone_to m b x l far near = leads_on raises m b x (leads_on turns m b x l near) far

    head_under : LeadsIn nodes' c bl head
    head_under = (raises.is, raises.is_is, raises.now)

    fell : (x : ℕ) → LeadsIn nodes c bl x → LeadsIn nodes' head b0 x
    fell x l = (turns.is, head_now, turns.now ∙ sym low ∙ sym (ap (λ (y : Node). child_at y.edges bl) (was_child c l.0 refl l.1)) ∙ l.2)

    -- only one old edge leads to the child
    not_child : (m b x : ℕ) → goes m ≡ true → LeadsIn nodes m b x → (m ≡ head → b ≢ b0) → x ≢ c
    not_child m b x g l near e = let o = s.once m b head b0 c g s.own (subst (λ (n : ℕ). LeadsIn nodes m b n) e l) to_child in near o.0 o.1

    below_child : (x : ℕ) → LeadsIn nodes c bl x → IsSome (nodes x) × (goes x ≡ true) × (s.rank c < s.rank x)
    below_child x l = s.down c bl x child_down.1 l

    below_off : (x : ℕ) → LeadsIn nodes c bl x → x ≢ c
    below_off x l e = let lt : s.rank c < s.rank x = (below_child x l).2 in let z : s.rank x ≡ s.rank c = ap s.rank e in absurd (omega arith)

    abbrev new_rank : ℕ → ℕ
    new_rank n = cond (eqb n c) 0 (suc (s.rank n))

    rank_child : new_rank c ≡ 0
    rank_child = ap (λ t. cond t 0 (suc (s.rank c))) (eq-eqb c c refl)

    rank_other : (n : ℕ) → n ≢ c → new_rank n ≡ suc (s.rank n)
    rank_other n off = elim (eqb_tells n c) [ inl e ↦ absurd (off e.1) | inr e ↦ ap (λ t. cond t 0 (suc (s.rank n))) e.0 ]

    rank_less : (m x : ℕ) → x ≢ c → s.rank m < s.rank x → new_rank m < new_rank x
    rank_less m x off lt =
        let a : new_rank x ≡ suc (s.rank x) = rank_other x off in
        elim (eqb_tells m c) [
          | inl e ↦ let z : new_rank m ≡ 0 = ap (λ (n : ℕ). new_rank n) e.1 ∙ rank_child in omega arith
          | inr e ↦ let z : new_rank m ≡ suc (s.rank m) = rank_other m e.1 in omega arith
        ]

    down_now : (m b x : ℕ) → goes m ≡ true → LeadsIn nodes' m b x → IsSome (nodes' x) × (goes x ≡ true) × (new_rank m < new_rank x)
    down_now m b x g l = elim (came m b x l) [
      | inl k ↦
          let z : new_rank m ≡ 0 = ap (λ (n : ℕ). new_rank n) k.0 ∙ rank_child in
          let w : new_rank x ≡ suc (s.rank head) = ap (λ (n : ℕ). new_rank n) k.2 ∙ rank_other head (λ e. child_off (sym e)) in
          (subst (λ (n : ℕ). IsSome (nodes' n)) (sym k.2) (live_on head s.live), ap goes k.2 ∙ s.own, omega arith)
      | inr o ↦ elim o [
        | inl k ↦
            let q = below_child x k.2 in
            let a : s.rank head < s.rank c = child_down.2 in
            let e : s.rank c < s.rank x = q.2 in
            let r : s.rank m ≡ s.rank head = ap s.rank k.0 in
            (live_on x q.0, q.1, rank_less m x (below_off x k.2) (omega arith))
        | inr k ↦ let q = s.down m b x g k.0 in (live_on x q.0, q.1, rank_less m x (not_child m b x g k.0 k.2) q.2)
      ]
    ]

    once_now : (m b n e x : ℕ) → goes m ≡ true → goes n ≡ true → LeadsIn nodes' m b x → LeadsIn nodes' n e x → (m ≡ n) × (b ≡ e)
    once_now m b n e x g h l k = elim (came m b x l) [
      | inl u ↦ elim (came n e x k) [
        | inl v ↦ (u.0 ∙ sym v.0, u.1 ∙ sym v.1)
        | inr o ↦ elim o [
          | inl v ↦ absurd (s.headless c bl child_down.1 (subst (λ (n : ℕ). LeadsIn nodes c bl n) u.2 v.2))
          | inr v ↦ absurd (s.headless n e h (subst (λ (z : ℕ). LeadsIn nodes n e z) u.2 v.0))
        ]
      ]
      | inr o ↦ elim o [
        | inl u ↦ elim (came n e x k) [
          | inl v ↦ absurd (s.headless c bl child_down.1 (subst (λ (n : ℕ). LeadsIn nodes c bl n) v.2 u.2))
          | inr q ↦ elim q [
            | inl v ↦ (u.0 ∙ sym v.0, u.1 ∙ sym v.1)
            | inr v ↦ let z = s.once c bl n e x child_down.1 h u.2 v.0 in absurd (v.1 (sym z.0) (sym z.1))
          ]
        ]
        | inr u ↦ elim (came n e x k) [
          | inl v ↦ absurd (s.headless m b g (subst (λ (z : ℕ). LeadsIn nodes m b z) v.2 u.0))
          | inr q ↦ elim q [
            | inl v ↦ let z = s.once c bl m b x child_down.1 g v.2 u.0 in absurd (u.1 (sym z.0) (sym z.1))
            | inr v ↦ s.once m b n e x g h u.0 v.0
          ]
        ]
      ]
    ]

    headless_now : (m b : ℕ) → goes m ≡ true → LeadsIn nodes' m b c → ⊥
    headless_now m b g l = elim (came m b c l) [
      | inl k ↦ child_off k.2
      | inr o ↦ elim o [ inl k ↦ below_off c k.2 refl | inr k ↦ not_child m b c g k.0 k.2 refl ]
    ]

    covered_now : (n : ℕ) → IsSome (nodes' n) → goes n ≡ true → (n ≡ c) ⊎ ((m : ℕ) × (b : ℕ) × (goes m ≡ true) × LeadsIn nodes' m b n)
    covered_now n h g = elim (eqb_tells n c) [
      | inl e ↦ inl e.1
      | inr off ↦ elim (eqb_tells n head) [
        | inl e ↦ inr (c, bl, child_down.1, subst (λ (z : ℕ). LeadsIn nodes' c bl z) (sym e.1) head_under)
        | inr far ↦
            let y = some_of (nodes' n) h in
            let w = turned n y.0 y.1 in
            elim (s.covered n (is_some (nodes n) w.0 w.1) g) [
              | inl e ↦ absurd (far.1 e)
              | inr p ↦ inr (elim (eqb_tells p.0 c) [
                | inl e ↦
                    let l : LeadsIn nodes c p.1 n = subst (λ (z : ℕ). LeadsIn nodes z p.1 n) e.1 p.3 in
                    elim (eqb_tells p.1 bl) [
                      | inl t ↦ (head, b0, s.own, fell n (subst (λ (z : ℕ). LeadsIn nodes c z n) t.1 l))
                      | inr t ↦ (p.0, p.1, p.2, gone_to p.0 p.1 n p.3 (λ _. t.1) (λ k. absurd (child_off (sym e.1 ∙ k))))
                    ]
                | inr e ↦ elim (eqb_tells p.0 head) [
                  | inl k ↦ elim (eqb_tells p.1 b0) [
                    | inl t ↦
                        let l : LeadsIn nodes head b0 n = subst (λ (z : ℕ). LeadsIn nodes head z n) t.1 (subst (λ (z : ℕ). LeadsIn nodes z p.1 n) k.1 p.3) in
                        let z : Some (Inner n) ≡ Some (Inner c) = sym (ap (λ (y : Node). child_at y.edges b0) (sym (was_head head l.0 refl l.1)) ∙ l.2) ∙ high in
                        absurd (off.1 cc)
                    | inr t ↦ (p.0, p.1, p.2, gone_to p.0 p.1 n p.3 (λ z. absurd (e.1 z)) (λ _. t.1))
                  ]
                  | inr k ↦ (p.0, p.1, p.2, gone_to p.0 p.1 n p.3 (λ z. absurd (e.1 z)) (λ z. absurd (k.1 z)))
                ]
              ])
            ]
      ]
    ]

    deeper_now : (m b x : ℕ) (y z : Node) → goes m ≡ true → nodes' m ≡ Some y → child_at y.edges b ≡ Some (Inner x) → nodes' x ≡ Some z → (less s.fresh c m ≡ true) ⊎ IsNotLast y.edges b → (less s.fresh c x ≡ true) × (y.depth < z.depth)
    deeper_now m b x y z g is there xz way =
        let w = turned m y is in
        let v = turned x z xz in
        elim (came m b x (y, is, there)) [
          | inl k ↦ absurd (elim way [
            | inl f ↦ (less_from s.fresh c m f).1 k.0
            | inr q ↦
                let i : IsSome (child_at raises.was.edges q.0) = subst (λ (n : Node). IsSome (child_at n.edges q.0)) (was_child m w.0 k.0 w.1) (w.4 q.0 q.2) in
                let j = some_of (child_at raises.was.edges q.0) i in
                let lt : b < q.0 = q.1 in
                let at : b ≡ bl = k.1 in
                let n : child_at raises.was.edges q.0 ≡ None = last q.0 (omega arith) in
                let e : None ≡ Some j.0 = sym n ∙ j.1 in
                cc
          ])
          | inr o ↦ elim o [
            | inl k ↦
                let l : child_at raises.was.edges bl ≡ Some (Inner x) = ap (λ (n : Node). child_at n.edges bl) (sym (was_child c k.2.0 refl k.2.1)) ∙ k.2.2 in
                let r = s.deeper c bl x raises.was v.0 child_down.1 child_was l v.1 (inl child_fresh.0) in
                let a : turns.was.depth < raises.was.depth = child_fresh.1 in
                let a2 : raises.was.depth < v.0.depth = r.1 in
                let e1 : y.depth ≡ turns.was.depth = w.2 ∙ ap (λ (n : Node). n.depth) (was_head m w.0 k.0 w.1) in
                let e2 : z.depth ≡ v.0.depth = v.2 in
                (less_to s.fresh c x (below_off x k.2) r.0, omega arith)
            | inr k ↦
                let way' : (s.fresh m ≡ true) ⊎ IsNotLast w.0.edges b = elim way [ inl f ↦ inl (less_from s.fresh c m f).0 | inr q ↦ inr (q.0, q.1, w.4 q.0 q.2) ] in
                let f : nodes m ≡ Some k.0.0 = k.0.1 in
                let q : nodes m ≡ Some w.0 = w.1 in
                let same : k.0.0 ≡ w.0 = cc in
                let l : child_at w.0.edges b ≡ Some (Inner x) = ap (λ (n : Node). child_at n.edges b) (sym same) ∙ k.0.2 in
                let r = s.deeper m b x w.0 v.0 g w.1 l v.1 way' in
                let a : w.0.depth < v.0.depth = r.1 in
                let e1 : y.depth ≡ w.0.depth = w.2 in
                let e2 : z.depth ≡ v.0.depth = v.2 in
                (less_to s.fresh c x (not_child m b x g k.0 k.2) r.0, omega arith)
          ]
        ]

    pub child_rotated : Loose goes before nodes' c
    child_rotated = record {
      fresh = less s.fresh c;
      rank = new_rank;
      kept = λ j f. (let far : j ≢ c = λ e. false≢true (sym f ∙ ap goes e ∙ child_down.1) in raises.others j far ∙ turns.others j (off_head j f) ∙ s.kept j f);
      live = live_on c child_down.0;
      own = child_down.1;
      some = λ m y is g. (let w = turned m y is in let a : 0 < length w.0.edges = s.some m w.0 w.1 g in let e : length y.edges ≡ length w.0.edges = w.3 in omega arith);
      down = down_now;
      once = once_now;
      headless = headless_now;
      covered = covered_now;
      deeper = deeper_now;
    }

    -- the new head is deeper
    pub rotated_deeper : turns.was.depth < raises.was.depth
    rotated_deeper = child_fresh.1
