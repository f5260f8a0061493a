-- The least and the greatest key below a child.
use Rattle.std.proofs.Common.{◌≡◌, ℕ, Bool, true, false, ◌<◌, [], ◌∷◌, ◌++◌, ◌⊎◌, inl, inr, subst, Option, Some, None}
use Rattle.std.proofs.lemmas.Bool.{cases_order}
use Rattle.blart_keys.specs.Bytes.{PartsBelow, less}
use Rattle.blart_keys.proofs.PartLemmas.{parts_at_branch, less-from_PartsBelow}
use Rattle.blart_keys.proofs.Options.{not_some}
use Rattle.art_tree.specs.Begins.{Bytes, Begins, next_byte}
use Rattle.art_kinds.specs.Edges.{child_at, IsEnd, Precedes}
use Rattle.art_kinds.specs.Nodes.{Node}
use Rattle.art_tree.specs.Invariant.Shape.{Shape, CoversLeaf, CoversNode, NodeFits}
use Rattle.art_tree.specs.Calls.Descents.{IsEndUnder, PartsBefore}
use Rattle.art_kinds.specs.declared.records.ids.Child.{Child}
use Rattle.art_kinds.specs.declared.records.ids.Edge.{Edge}
use Rattle.art_tree.proofs.BeginsLemmas.{begins-from_Begins, Begins-more, Begins-trans, Begins-edge_front}

-- of two keys with a prefix and different next bytes, the one with the lesser parts below the other
pub parts_by_next : (f k l : Bytes) (b c : ℕ) → Begins (f ++ b ∷ []) k → Begins (f ++ c ∷ []) l → b < c → PartsBelow k l
parts_by_next f k l b c h m lt = parts_at_branch f k l (record { low = b; high = c; below = lt; first = begins-from_Begins (f ++ b ∷ []) k h; second = begins-from_Begins (f ++ c ∷ []) l m })

module _ {P : ℕ} (keys : ℕ → Option Bytes) (nodes : ℕ → Option Node) (root : Option Child) (s : Shape P keys nodes root) (is_first : Bool) where
  pub end_leaf : (g : Bytes) (i : ℕ) → CoversLeaf keys g i → IsEndUnder keys is_first g i
  end_leaf g i c = record { key = c.key; is = c.is; front = c.front; end = λ j k e b. inl (c.only j k e b) }

  module _ (g : Bytes) (n : ℕ) (x : Node) (is : nodes n ≡ Some x) (c : CoversNode keys nodes s.front_of g n) (e : Edge) where
    fits : NodeFits keys nodes s.front_of (s.front_of n) x
    fits = s.node n x is

    on : (j : ℕ) (k : Bytes) → keys j ≡ Some k → Begins g k → Begins (s.front_of n ++ next_byte (s.front_of n) k ∷ []) k
    on j k k_is b = let h = c.only j k k_is b in Begins-more (s.front_of n) k h (fits.longer j k k_is h)

    -- the end leaf below the edge at an end of a node is the end leaf below the node
    pub end_step : IsEnd is_first x.edges e → (i : ℕ) → IsEndUnder keys is_first (s.front_of n ++ e.byte ∷ []) i → IsEndUnder keys is_first g i
    end_step l i u = record {
      key = u.key;
      is = u.is;
      front = Begins-trans g (s.front_of n) u.key c.front (Begins-edge_front (s.front_of n) u.key e.byte u.front);
      end = λ j k k_is b.
          let h = on j k k_is b in
          elim (cases_order (next_byte (s.front_of n) k) e.byte) [
            | inl same ↦ u.end j k k_is (subst (λ (z : ℕ). Begins (s.front_of n ++ z ∷ []) k) same h)
            | inr (inl lt) ↦ below is_first l.end j k k_is b h lt
            | inr (inr gt) ↦ above is_first l.end j k k_is b h gt
          ];
    }
      where
        none : (j : ℕ) (k : Bytes) → keys j ≡ Some k → Begins g k → child_at x.edges (next_byte (s.front_of n) k) ≡ None → ⊥
        none j k k_is b h = not_some (child_at x.edges (next_byte (s.front_of n) k)) h (fits.edge j k k_is (c.only j k k_is b))

        below : (first : Bool) → ((b : ℕ) → Precedes first b e.byte → child_at x.edges b ≡ None) → (j : ℕ) (k : Bytes) → keys j ≡ Some k → Begins g k → Begins (s.front_of n ++ next_byte (s.front_of n) k ∷ []) k → next_byte (s.front_of n) k < e.byte → (j ≡ i) ⊎ PartsBefore first u.key k
        below true l j k k_is b h lt = absurd (none j k k_is b (l (next_byte (s.front_of n) k) lt))
        below false l j k k_is b h lt = inr (parts_by_next (s.front_of n) k u.key (next_byte (s.front_of n) k) e.byte h u.front lt)

        above : (first : Bool) → ((b : ℕ) → Precedes first b e.byte → child_at x.edges b ≡ None) → (j : ℕ) (k : Bytes) → keys j ≡ Some k → Begins g k → Begins (s.front_of n ++ next_byte (s.front_of n) k ∷ []) k → e.byte < next_byte (s.front_of n) k → (j ≡ i) ⊎ PartsBefore first u.key k
        above true l j k k_is b h gt = inr (parts_by_next (s.front_of n) u.key k e.byte (next_byte (s.front_of n) k) u.front h gt)
        above false l j k k_is b h gt = absurd (none j k k_is b (l (next_byte (s.front_of n) k) gt))

-- the first leaf has the least key, by `less`
pub first_less : {keys : ℕ → Option Bytes} {g : Bytes} {i : ℕ} (u : IsEndUnder keys true g i) (j : ℕ) (k : Bytes) → keys j ≡ Some k → Begins g k → (j ≡ i) ⊎ (less u.key k ≡ true)
first_less u j k e b = elim (u.end j k e b) [ inl s ↦ inl s | inr p ↦ inr (less-from_PartsBelow u.key k p) ]

pub last_greater : {keys : ℕ → Option Bytes} {g : Bytes} {i : ℕ} (u : IsEndUnder keys false g i) (j : ℕ) (k : Bytes) → keys j ≡ Some k → Begins g k → (j ≡ i) ⊎ (less k u.key ≡ true)
last_greater u j k e b = elim (u.end j k e b) [ inl s ↦ inl s | inr p ↦ inr (less-from_PartsBelow k u.key p) ]
