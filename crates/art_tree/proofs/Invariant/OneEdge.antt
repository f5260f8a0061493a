-- Only one edge leads to each node.
use Rattle.std.proofs.Common.{◌≡◌, ◌≢◌, ℕ, ◌+◌, ◌≤◌, [], ◌∷◌, ◌++◌, length, refl, ap, arith, sym, subst, Option, Some, None, ◌∙◌, inl, inr, length-append}
use Rattle.std.proofs.lemmas.Bool.{cases_lt}
use Rattle.std.proofs.lemmas.Bool.Decides.{eqb_tells}
use Rattle.art_tree.specs.Begins.{Bytes, Begins, next_byte}
use Rattle.art_tree.specs.Invariant.EdgesAbove.{LeadsTo}
use Rattle.art_kinds.specs.Nodes.{Node, Renames}
use Rattle.art_kinds.specs.Edges.{child_at}
use Rattle.art_tree.specs.Invariant.Shape.{Shape, CoversNode, RootFits}
use Rattle.art_kinds.specs.declared.records.ids.Child.{Child}
use Rattle.art_kinds.specs.declared.records.ids.Child.TheVariants.{Inner}
use Rattle.art_tree.proofs.BeginsLemmas.{Begins-length, Begins-trans, Begins-next, Begins-linear, Begins-equal, Begins-edge_front}
use Rattle.blart_keys.proofs.Options.{is_some}

module _ {P : ℕ} (keys : ℕ → Option Bytes) (nodes : ℕ → Option Node) (root : Option Child) (s : Shape P keys nodes root) where
  over : (g : Bytes) (n q c : ℕ) (x : Node) → nodes q ≡ Some x → CoversNode keys nodes s.front_of g n → CoversNode keys nodes s.front_of (s.front_of q ++ c ∷ []) n → length g ≤ length (s.front_of q) → ⊥
  over g n q c x is a b l =
      let f = s.front_of q in
      let p = (s.node q x is).parts in
      let gf : Begins g f = Begins-linear g f (s.front_of n) a.front (Begins-edge_front f (s.front_of n) c b.front) l in
      let k : Begins (f ++ c ∷ []) p.k = Begins-trans (f ++ c ∷ []) (s.front_of n) p.k b.front (a.only p.i p.k p.k_is (Begins-trans g f p.k gf p.k_front)) in
      let h : Begins (f ++ c ∷ []) p.l = Begins-trans (f ++ c ∷ []) (s.front_of n) p.l b.front (a.only p.j p.l p.l_is (Begins-trans g f p.l gf p.l_front)) in
      p.differ (Begins-next f p.k c k ∙ sym (Begins-next f p.l c h))

  covers : (q c n : ℕ) (x : Node) → nodes q ≡ Some x → child_at x.edges c ≡ Some (Inner n) → CoversNode keys nodes s.front_of (s.front_of q ++ c ∷ []) n
  covers q c n x is e = (s.node q x is).below c (Inner n) e

  -- no edge leads to its own node
  pub not_itself : (q c n : ℕ) (x : Node) → nodes q ≡ Some x → child_at x.edges c ≡ Some (Inner n) → q ≢ n
  not_itself q c n x is e h =
      let f : Begins (s.front_of q ++ c ∷ []) (s.front_of n) = (covers q c n x is e).front in
      let l : length (s.front_of q ++ c ∷ []) ≤ length (s.front_of n) = Begins-length (s.front_of q ++ c ∷ []) (s.front_of n) f in
      let d : length (s.front_of q ++ c ∷ []) ≡ length (s.front_of q) + 1 = length-append (s.front_of q) (c ∷ []) in
      let k : length (s.front_of q) ≡ length (s.front_of n) = ap (λ z. length (s.front_of z)) h in
      absurd (omega arith)

  -- only one edge leads to a node
  pub one_edge : (p b q c n : ℕ) (y x : Node) → nodes p ≡ Some y → nodes q ≡ Some x → child_at y.edges b ≡ Some (Inner n) → child_at x.edges c ≡ Some (Inner n) → (q ≡ p) × (c ≡ b)
  one_edge p b q c n y x py qx eb ec =
      let fp = s.front_of p in
      let fq = s.front_of q in
      let a = covers p b n y py eb in
      let d = covers q c n x qx ec in
      let lp : length (fp ++ b ∷ []) ≡ length fp + 1 = length-append fp (b ∷ []) in
      let lq : length (fq ++ c ∷ []) ≡ length fq + 1 = length-append fq (c ∷ []) in
      elim (cases_lt (length fp) (length fq)) [
        | inl lt ↦ absurd (over (fp ++ b ∷ []) n q c x qx a d (omega arith))
        | inr le ↦
            elim (cases_lt (length fq) (length fp)) [
              | inl lt ↦ absurd (over (fq ++ c ∷ []) n p b y py d a (omega arith))
              | inr le2 ↦
                  let bq : Begins fq (s.front_of n) = Begins-edge_front fq (s.front_of n) c d.front in
                  let bp : Begins fp (s.front_of n) = Begins-edge_front fp (s.front_of n) b a.front in
                  let same : fq ≡ fp = Begins-equal fq fp (Begins-linear fq fp (s.front_of n) bq bp le) le2 in (
                    s.apart q p (is_some (nodes q) x qx) (is_some (nodes p) y py) same,
                    sym (Begins-next fq (s.front_of n) c d.front) ∙ ap (λ (f : Bytes). next_byte f (s.front_of n)) same ∙ Begins-next fp (s.front_of n) b a.front,
                  )
            ]
      ]

  -- no edge leads to the node at the root
  pub no_edge_to : (q c n : ℕ) (x : Node) → root ≡ Some (Inner n) → nodes q ≡ Some x → child_at x.edges c ≡ Some (Inner n) → ⊥
  no_edge_to q c n x e is ec =
      let a : CoversNode keys nodes s.front_of [] n = subst (λ (r : Option Child). RootFits keys nodes s.front_of r) e s.top in
      over [] n q c x is a (covers q c n x is ec) (omega arith)

-- equal edges have the same node and byte
pub same_edge : (d e : ℕ × ℕ) → Some d ≡ Some e → (d.0 ≡ e.0) × (d.1 ≡ e.1)
same_edge d e is = let z : d ≡ e = cc in (ap (λ (w : ℕ × ℕ). w.0) z, ap (λ (w : ℕ × ℕ). w.1) z)

-- only one edge, or the root, leads to a node
pub one_above : {P : ℕ} → (keys : ℕ → Option Bytes) (nodes : ℕ → Option Node) (root : Option Child) (s : Shape P keys nodes root) (n : ℕ) (a b : Option (ℕ × ℕ)) → LeadsTo nodes root a (Inner n) → LeadsTo nodes root b (Inner n) → a ≡ b
one_above keys nodes root s n None None l m = refl
one_above keys nodes root s n None (Some e) l m = absurd (no_edge_to keys nodes root s e.0 e.1 n m.0 l m.1 m.2)
one_above keys nodes root s n (Some e) None l m = absurd (no_edge_to keys nodes root s e.0 e.1 n l.0 m l.1 l.2)
one_above keys nodes root s n (Some d) (Some e) l m =
    let h = one_edge keys nodes root s e.0 e.1 d.0 d.1 n m.0 l.0 m.1 l.1 m.2 l.2 in
    let z : d ≡ e = (λ i. (h.0 i, h.1 i)) in
    ap (λ (e : ℕ × ℕ). Some e) z

-- a live number that is not the node's keeps its node
pub kept_mid : (nodes mid : ℕ → Option Node) (n m j : ℕ) (x : Node) → Renames nodes mid n m → nodes j ≡ Some x → j ≢ n → mid j ≡ Some x
kept_mid nodes mid n m j x ren is off =
    let far : j ≢ m = λ e.
    elim (eqb_tells m n) [
      | inl f ↦ off (e ∙ f.1)
      | inr f ↦ (let g : nodes m ≡ None = ren.fresh f.1 in let h : nodes m ≡ Some x = rw (← e) is in let k : Some x ≡ None = sym h ∙ g in absurd cc)
    ] in
    ren.others j off far ∙ is
