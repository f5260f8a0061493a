-- The pairs with one more pair.
use Rattle.std.proofs.Common.{◌≡◌, ◌≢◌, ℕ, ◌<◌, List, [], length, refl, ap, sym, subst, Option, Some, None, ◌∙◌, false, arith}
use Rattle.std.specs.Prelude.{IfSome}
use Rattle.blart_keys.specs.Bytes.{related}
use Rattle.blart_keys.specs.Content.{IsContent}
use Rattle.art_tree.specs.Begins.{Bytes}
use Rattle.art_tree.specs.Gaps.{LeavesNearest, IsLeafBefore, IsBeside, neighbour, number_before_gap}
use Rattle.art_tree.specs.Calls.Placing.{IsForkFor, HasNearest, IsShown, IsShownIn, IsToJoin, TreeGains, PutsPair}
use Rattle.art_tree.specs.Leaves.{Leaves, Numbered, leaf_in, Has, AreDistinct, with_pair_after, bytes, keys_in}
use Rattle.art_kinds.specs.Nodes.{Nodes, Node, at}
use Rattle.art_tree.specs.Points.{IsFree}
use Rattle.art_tree.specs.Invariant.Shape.{Shape}
use Rattle.art_tree.specs.Calls.Forks.{ForkFits}
use Rattle.art_tree.specs.Invariant.Sound.{IsSound}
use Rattle.art_tree.specs.declared.tree.descent.Fork.{Fork}
use Rattle.art_tree.specs.declared.tree.point.Neighbour.{Neighbour}
use Rattle.art_tree.specs.declared.tree.point.Neighbour.TheVariants.{AfterLeaf, BeforeLeaf}
use Rattle.art_tree.specs.declared.tree.point.Gap.{Gap}
use Rattle.art_kinds.specs.declared.records.ids.Child.{Child}
use Rattle.art_kinds.specs.declared.records.ids.Child.TheVariants.{Leaf}
use Rattle.art_tree.proofs.Invariant.Growing.{Gains, some_key}
use Rattle.art_tree.proofs.Calls.PlacedShapes.{nearest_long}
use Rattle.art_tree.proofs.NumberedPairs.KeyChanges.{gains_from, leaving_unrelated}
use Rattle.art_tree.proofs.NumberedPairs.Turns.{none_begins}
use Rattle.art_rows.proofs.CallerLemmas.{Lacks-from_leaf_in, leaf_in-placed_now, others-with_pair_after}
use Rattle.art_tree.proofs.NumberedPairs.Neighbours.{placed_put, before_beside}
use Rattle.art_tree.proofs.NumberedPairs.Keys.{has_key}
use Rattle.art_tree.proofs.Invariant.SameShapes.{rooted}
use Rattle.art_tree.proofs.Invariant.SmallShapes.{first_key}

-- a tree with no key has no root
pub no_root : {P : ℕ} → (keys : ℕ → Option Bytes) (nodes : ℕ → Option Node) (root : Option Child) → Shape P keys nodes root → ((j : ℕ) → keys j ≡ None) → root ≡ None
no_root keys nodes None s none = refl
no_root keys nodes (Some c) s none =
    let k = some_key keys nodes (Some c) s [] c s.top in
    let a : keys k.0 ≡ Some k.1 = k.2 in
    let b : keys k.0 ≡ None = none k.0 in
    absurd cc

-- a fork that is right for all keys is right for these
pub shown_rest : (P : ℕ) (nodes : ℕ → Option Node) (root : Option Child) (gap : Gap) (keys : ℕ → Option Bytes) (shown : Option Fork) → IfSome shown (IsShown P nodes root gap) → IfSome shown (IsShownIn P keys nodes root gap.nearest gap.depth)
shown_rest P nodes root gap keys None h = tt
shown_rest P nodes root gap keys (Some fork) h = h keys

module _ {K V : Type 0} (key_bytes : K → Bytes) where
  -- the leaf before some bytes is a leaf of the pairs
  pub has_leaf_before : (pairs : List (Numbered K V)) (q : Bytes) (prev : Option ℕ) → IsLeafBefore (keys_in key_bytes pairs) q prev → IfSome prev (Has pairs)
  has_leaf_before pairs q None st = tt
  has_leaf_before pairs q (Some i) st = has_key key_bytes pairs i st.key st.is

  -- a pair is placed after the leaf before its bytes
  pub placed_pairs : (old new : List (Numbered K V)) (q : Bytes) (prev : Option ℕ) (i : ℕ) (x : K × V) → IsContent (bytes key_bytes) old → AreDistinct old → ((j : ℕ) (k : Bytes) → keys_in key_bytes old j ≡ Some k → related k q ≡ false)
      → IsLeafBefore (keys_in key_bytes old) q prev → leaf_in old i ≡ None → key_bytes x.0 ≡ q → new ≡ with_pair_after prev (i, x) old → PutsPair key_bytes old new i x
  placed_pairs old new q prev i x content distinct alone st fresh own is =
      let has = has_leaf_before old q prev st in
      let lacks = Lacks-from_leaf_in old i fresh in
      subst (λ (ps : List (Numbered K V)). PutsPair key_bytes old ps i x) (sym is) (record {
        put = placed_put key_bytes old content distinct q alone prev (i, x) own st;
        fresh = fresh;
        now = leaf_in-placed_now prev (i, x) old has lacks;
        others = others-with_pair_after prev (i, x) old has lacks;
      })

  -- the first pair is placed
  pub placed_first : (old new : List (Numbered K V)) (i : ℕ) (x : K × V) → IsContent (bytes key_bytes) old → old ≡ [] → leaf_in old i ≡ None → new ≡ with_pair_after None (i, x) old → PutsPair key_bytes old new i x
  placed_first old new i x content empty fresh is =
      let none : (j : ℕ) (k : Bytes) → keys_in key_bytes old j ≡ Some k → ⊥ = λ j k e. (let a : keys_in key_bytes old j ≡ None = ap (λ (ps : List (Numbered K V)). keys_in key_bytes ps j) empty in cc) in
      let distinct : AreDistinct old = subst (λ (ps : List (Numbered K V)). AreDistinct ps) (sym empty) tt in
      placed_pairs old new (key_bytes x.0) None i x content distinct (λ j k e. absurd (none j k e)) (λ j k e. absurd (none j k e)) fresh refl is

  -- the keys gain that pair's key
  pub placed_gains : (old new : List (Numbered K V)) (i : ℕ) (x : K × V) → PutsPair key_bytes old new i x → Gains (keys_in key_bytes old) (keys_in key_bytes new) i (key_bytes x.0)
  placed_gains old new i x p = gains_from key_bytes old new i p.others x p.fresh p.now

  -- with the first pair, the tree is one leaf
  pub first_sound : {P : ℕ} → (leaves leaves' : Leaves K V) (nodes : Nodes) (root : Option Child) (i : ℕ) (x : K × V) → IsSound key_bytes P leaves nodes root → leaves.pairs ≡ [] → PutsPair key_bytes leaves.pairs leaves'.pairs i x → IsSound key_bytes P leaves' nodes (Some (Leaf i))
  first_sound leaves leaves' nodes root i x sound empty p =
      let none : (j : ℕ) → keys_in key_bytes leaves.pairs j ≡ None = λ j. ap (λ (ps : List (Numbered K V)). keys_in key_bytes ps j) empty in
      let s : Shape _ (keys_in key_bytes leaves.pairs) (at nodes) None = rooted sound.shape (no_root (keys_in key_bytes leaves.pairs) (at nodes) root sound.shape none) in
      record {
        content = p.put.content;
        shape = first_key (keys_in key_bytes leaves.pairs) (keys_in key_bytes leaves'.pairs) (at nodes) i (key_bytes x.0) s (placed_gains leaves.pairs leaves'.pairs i x p);
      }

  module _ (old : List (Numbered K V)) (gap : Gap) (q : Bytes) (content : IsContent (bytes key_bytes) old) (distinct : AreDistinct old) (free : IsFree key_bytes old gap q) (prev : Option ℕ) (prev_is : prev ≡ number_before_gap old gap.beside) where
    alone : (j : ℕ) (k : Bytes) → keys_in key_bytes old j ≡ Some k → related k q ≡ false
    alone = leaving_unrelated (keys_in key_bytes old) gap.nearest gap.depth q free.leaves (none_begins key_bytes old content distinct)

    -- the leaf before a gap
    pub free_before : IsLeafBefore (keys_in key_bytes old) q prev
    free_before = subst (IsLeafBefore (keys_in key_bytes old) q) (sym prev_is) (before_beside key_bytes old content distinct q alone gap.beside free.beside)

    -- a pair is placed at a gap
    pub placed_free : (new : List (Numbered K V)) (i : ℕ) (x : K × V) → key_bytes x.0 ≡ q → leaf_in old i ≡ None → new ≡ with_pair_after prev (i, x) old → PutsPair key_bytes old new i x
    placed_free new i x own fresh is = placed_pairs old new q prev i x content distinct alone free_before fresh own is

  -- the leaf beside a gap is a leaf of the pairs
  pub has_beside : (pairs : List (Numbered K V)) (q : Bytes) (beside : Neighbour) → IsBeside (keys_in key_bytes pairs) q beside → Has pairs (neighbour beside)
  has_beside pairs q (AfterLeaf i) st = has_key key_bytes pairs i st.key st.is
  has_beside pairs q (BeforeLeaf i) st = has_key key_bytes pairs i st.key st.is

  -- the new leaf is to be added to the tree
  pub joins : {P : ℕ} → (leaves : Leaves K V) (nodes : Nodes) (root : Option Child) (new : List (Numbered K V)) (nearest depth : ℕ) (shown : Option Fork) (i : ℕ) (x : K × V) → IsSound key_bytes P leaves nodes root → LeavesNearest (keys_in key_bytes leaves.pairs) nearest depth (key_bytes x.0)
      → IfSome shown (IsShownIn P (keys_in key_bytes leaves.pairs) (at nodes) root nearest depth) → PutsPair key_bytes leaves.pairs new i x → IsToJoin P (keys_in key_bytes new) (at nodes) root nearest depth shown i
  joins leaves nodes root new nearest depth shown i x sound good known p = record {
    rest = keys_in key_bytes leaves.pairs;
    shape = sound.shape;
    key = key_bytes x.0;
    leaves = good;
    gains = placed_gains leaves.pairs new i x p;
    known = known;
  }

module _ {P : ℕ} {keys : ℕ → Option Bytes} {nodes : ℕ → Option Node} {root : Option Child} {nearest depth : ℕ} {shown : Option Fork} {i : ℕ} (new : IsToJoin P keys nodes root nearest depth shown i) where
  -- the nearest leaf is not the new one
  another : nearest ≢ i
  another e = let a : new.rest i ≡ Some new.leaves.nearest_key = ap new.rest (sym e) ∙ new.leaves.nearest_is in let b : new.rest i ≡ None = new.gains.fresh in let z : None ≡ Some new.leaves.nearest_key = sym b ∙ a in cc

  -- and has its key
  pub has_nearest : keys nearest ≡ Some new.leaves.nearest_key
  has_nearest = new.gains.others nearest another ∙ new.leaves.nearest_is

  -- if its fork is known, it is right
  pub known_fits : (fork : Fork) → shown ≡ Some fork → ForkFits nodes root new.shape.front_of new.leaves.nearest_key depth fork
  known_fits fork e =
      let long : depth < length new.leaves.nearest_key = new.leaves.nearest_longer in
      subst (λ (o : Option Fork). IfSome o (IsShownIn P new.rest nodes root nearest depth)) e new.known new.shape new.leaves.nearest_key new.leaves.nearest_is (omega arith)

  module _ {k m : Bytes} (own : keys i ≡ Some k) (near : keys nearest ≡ Some m) where
    own_key : new.key ≡ k
    own_key = let a : keys i ≡ Some new.key = new.gains.has in cc

    -- the nearest key was there before
    pub near_rest : new.rest nearest ≡ Some m
    near_rest = sym (new.gains.others nearest another) ∙ near

    -- the new key parts from the nearest key at this depth
    pub leaves_near : LeavesNearest new.rest nearest depth k
    leaves_near = subst (λ (k : Bytes). LeavesNearest new.rest nearest depth k) own_key new.leaves

    module _ (fork : Fork) (fits : ForkFits nodes root new.shape.front_of m depth fork) where
      -- the fork that was found is right
      pub new_fork : IsForkFor P nodes root fork k m depth
      new_fork = record { keys = new.rest; shape = new.shape; leaf = nearest; is = near_rest; leaves = leaves_near; fits = fits }

      -- and once the leaf is added there, the tree has the key
      pub new_shape : (nodes' : ℕ → Option Node) (root' : Option Child) → TreeGains P nodes nodes' root root' fork k m depth i → Shape P keys nodes' root'
      new_shape nodes' root' joined = joined new.rest keys new.shape nearest near_rest leaves_near fits (subst (λ (k : Bytes). Gains new.rest keys i k) own_key new.gains)

-- the fork can be found by the nearest key
abbrev pub to_nearest : {P : ℕ} {keys : ℕ → Option Bytes} {nodes : ℕ → Option Node} {root : Option Child} (gap : Gap) {shown : Option Fork} {i : ℕ} (new : IsToJoin P keys nodes root gap.nearest gap.depth shown i) {k m : Bytes} → keys i ≡ Some k → keys gap.nearest ≡ Some m → HasNearest P nodes root gap shown m
to_nearest gap new {k} {m} own near =
    let is = near_rest new own near in
    let long : gap.depth < length m = nearest_long new.rest gap.nearest gap.depth k (leaves_near new own near) m is in
    record { keys = new.rest; shape = new.shape; is = is; within = omega arith; known = new.known }
