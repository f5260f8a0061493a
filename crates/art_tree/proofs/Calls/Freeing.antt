-- What the calls that free the nodes below an edge require and ensure.
use Rattle.std.proofs.Common.{◌≡◌, ◌≢◌, ℕ, ◌+◌, ◌-◌, ◌*◌, ◌^◌, ◌<◌, List, Bool, true, false, refl, ap, arith, sym, subst, Option, Some, None, IsSome, is_some, ◌∙◌, inl, inr}
use Rattle.std.proofs.lemmas.Bool.{cases_lt}
use Rattle.art_kinds.specs.Nodes.{Node, Nodes, Redirects, Frees, at, live}
use Rattle.art_kinds.specs.Edges.{child_at, IsNext, IsEnd}
use Rattle.art_kinds.specs.declared.records.ids.Edge.{Edge}
use Rattle.art_kinds.specs.declared.records.ids.Child.TheVariants.{Inner}
use Rattle.art_tree.specs.Calls.Pruning.{Loose, LeadsIn, IsNotLast, IsFirstNode, HasFirstNode, IsDeeper}
use Rattle.art_tree.proofs.Invariant.Rotating.{child_rotated, rotated_deeper, head_gone}
use Rattle.art_tree.proofs.Ways.Depths.{depth_of}
use Rattle.blart_keys.proofs.Options.{is_some as has_some}

-- an option that is some edge is not none
pub some_edge : (o : Option Edge) → is_some o ≡ true → o ≢ None
some_edge None e = absurd cc
some_edge (Some x) e = λ z. cc

pub no_edge : (o : Option Edge) → is_some o ≡ false → o ≡ None
no_edge None e = refl
no_edge (Some x) e = absurd cc

module _ (es : List Edge) (b : ℕ) where
  -- after the last edge, no edge leads to a node
  pub none_after_last : (d x : ℕ) → IsNext es b None → b < d → child_at es d ≡ Some (Inner x) → ⊥
  none_after_last d x next lt e = let z : None ≡ Some (Inner x) = sym (next d lt) ∙ e in cc

  -- an edge with another after it is not the last
  pub not_last : (o : Option Edge) → IsNext es b o → o ≢ None → IsNotLast es b
  not_last None next off = absurd (off refl)
  not_last (Some e) next off = (e.byte, next.0, has_some (child_at es e.byte) e.to next.1)

  -- if the first edge to a node is the last edge, it is the only one to a node
  pub only_node : (x0 : ℕ) → IsFirstNode es (Some (b, x0)) → IsNext es b None → (d x : ℕ) → child_at es d ≡ Some (Inner x) → d ≡ b
  only_node x0 first next d x e = elim (cases_lt d b) [
    | inl lt ↦ absurd (first.1 d x lt e)
    | inr ge ↦ elim (cases_lt b d) [
      | inl gt ↦ absurd (none_after_last d x next gt e)
      | inr le ↦ omega arith
    ]
  ]

module _ (goes : ℕ → Bool) (before nodes : ℕ → Option Node) (head : ℕ) (s : Loose goes before nodes head) (b below : ℕ) (leads : LeadsIn nodes head b below) where
  -- the node below is live, is to be freed, and is another node
  pub below_live : IsSome (nodes below)
  below_live = (s.down head b below s.own leads).0

  pub below_goes : goes below ≡ true
  below_goes = (s.down head b below s.own leads).1

  pub below_off : below ≢ head
  below_off e = s.headless head b s.own (subst (λ (n : ℕ). LeadsIn nodes head b n) e leads)

  module _ (mid nodes' : ℕ → Option Node) (x : Node) (is : nodes below ≡ Some x) (e : Edge) (end : IsEnd false x.edges e)
      (has_next : (y : Node) → nodes head ≡ Some y → IsNotLast y.edges b) (turns : Redirects nodes mid head b e.to) (raises : Redirects mid nodes' below e.byte (Inner head)) where
    was_below : raises.was ≡ x
    was_below = let f : mid below ≡ Some x = turns.others below below_off ∙ is in let h : mid below ≡ Some raises.was = raises.was_is in cc

    high : child_at turns.was.edges b ≡ Some (Inner below)
    high =
        let f : nodes head ≡ Some turns.was = turns.was_is in
        let h : nodes head ≡ Some leads.0 = leads.1 in
        let same : turns.was ≡ leads.0 = cc in
        ap (λ (y : Node). child_at y.edges b) same ∙ leads.2

    low : child_at raises.was.edges e.byte ≡ Some e.to
    low = ap (λ (y : Node). child_at y.edges e.byte) was_below ∙ end.there

    last : (d : ℕ) → e.byte < d → child_at raises.was.edges d ≡ None
    last d lt = ap (λ (y : Node). child_at y.edges d) was_below ∙ end.end d lt

    -- the node below is rotated above the head
    pub loose_rotated : Loose goes before nodes' below
    loose_rotated = child_rotated goes before nodes nodes' head s mid b below e.byte e.to turns raises high (has_next turns.was turns.was_is) low last

    pub deeper_rotated : IsDeeper nodes nodes' head below
    deeper_rotated = record {
      was = turns.was;
      was_is = turns.was_is;
      is = raises.is;
      is_is = raises.is_is;
      deeper =
          let a : turns.was.depth < raises.was.depth = rotated_deeper goes before nodes nodes' head s mid b below e.byte e.to turns raises high (has_next turns.was turns.was_is) low last in
          let f : raises.is.depth ≡ raises.was.depth = raises.depth in
          omega arith;
    }

  -- the head is freed, if only its last edge leads to a node, which is the node below
  pub loose_gone : (nodes' : ℕ → Option Node) → (f : HasFirstNode nodes head (Some (b, below))) → IsNext f.node.edges b None → Frees nodes nodes' head → Loose goes before nodes' below
  loose_gone nodes' f next frees = head_gone goes before nodes nodes' head s b below f.node f.is f.first.0 (only_node f.node.edges b below f.first next) frees

-- a measure of the steps that are left, if the nodes below n are to be freed
abbrev pub left : Nodes → ℕ → ℕ
left nodes n = live nodes * (2 ^ 64 + 1) + (2 ^ 64 - depth_of (at nodes n))

-- if a node has no first edge to a node, no edge of it leads to a node
pub none_below : (nodes : ℕ → Option Node) (n : ℕ) (o : Option (ℕ × ℕ)) → HasFirstNode nodes n o → o ≡ None → (y : Node) (b x : ℕ) → nodes n ≡ Some y → child_at y.edges b ≡ Some (Inner x) → ⊥
none_below nodes n o h none y b x is there =
    let f : IsFirstNode h.node.edges None = subst (λ (o : Option (ℕ × ℕ)). IsFirstNode h.node.edges o) none h.first in
    let e : nodes n ≡ Some h.node = h.is in
    let same : y ≡ h.node = cc in
    f b x (ap (λ (y : Node). child_at y.edges b) (sym same) ∙ there)
