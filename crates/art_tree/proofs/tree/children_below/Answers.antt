use Rattle.std.proofs.Common.{◌≡◌, ◌+◌, ◌≤◌, ◌∙◌, lit<, ℕ, List, Option, Some, true, false, ap, sym, subst, arith, length}
use Rattle.std.specs.FinSet as set
use Rattle.blart_keys.specs.Bytes.{begins}
use Rattle.blart_keys.specs.Content.{IsContent}
use Rattle.blart_keys.specs.Fronts.{parts}
use Rattle.art_tree.specs.Begins.{Bytes, Begins}
use Rattle.art_tree.specs.Calls.Descents.{FindsNone, FindsNode}
use Rattle.art_tree.specs.Leaves.{Numbered, AreDistinct, keys_in, bytes}
use Rattle.art_tree.specs.Longest.{longest}
use Rattle.art_kinds.specs.Nodes.{Node}
use Rattle.art_tree.specs.Invariant.Shape.{Shape}
use Rattle.art_kinds.specs.declared.records.ids.Child.{Child}
use Rattle.art_tree.proofs.BeginsLemmas.{Begins-from_begins, begins-from_Begins, Begins-linear, Begins-equal}
use Rattle.art_tree.proofs.Invariant.Counting.{no_parts, edges_are_parts}
use Rattle.art_tree.proofs.Ways.Roots.{is_root}
use Rattle.art_tree.proofs.NumberedPairs.Keys.{has_key, key_read}
use Rattle.art_tree.proofs.Invariant.Soundness.{within_longest}
use Rattle.art_tree.proofs.tree.children_below.Goals as goal

module _ {P : ℕ} {K V : Type 0} (kb : K → List ℕ) (S : List (Numbered K V)) (content : IsContent (bytes kb) S) (distinct : AreDistinct S) {nodes : ℕ → Option Node} {root : Option Child} (s : Shape P (keys_in kb S) nodes root) {f : Bytes} {old new : ℕ} where
  -- no node has this front, and so no keys part there
  nothing : FindsNone (keys_in kb S) nodes s.front_of f old new → 0 ≡ set.len (parts (bytes kb) S f)
  nothing h = sym (no_parts kb S content distinct nodes root s f h.none)

  nothing_soon : FindsNone (keys_in kb S) nodes s.front_of f old new → new ≤ old + longest (bytes kb) S + 1
  nothing_soon h = let l : length h.key ≤ longest (bytes kb) S = within_longest kb S h.leaf h.key h.is in let few : new ≤ old + length h.key + 1 = h.few in omega arith

  -- the visits remain within the bound with one more to read the key
  soon : {count leaf : ℕ} (h : FindsNode (keys_in kb S) nodes s.front_of f old new count leaf) {last : ℕ} → last ≡ new + 1 →
      last ≤ old + longest (bytes kb) S + 1
  soon {leaf = leaf} h e =
      let l : length h.first.key ≤ longest (bytes kb) S = within_longest kb S leaf h.first.key h.first.is in
      let few : new ≤ old + length h.first.key = h.few in
      omega arith

  -- the leaf below the node that was found, and its key
  module _ {count leaf : ℕ} (h : FindsNode (keys_in kb S) nodes s.front_of f old new count leaf) {k : Bytes} (is : keys_in kb S leaf ≡ Some k) where
    same : h.first.key ≡ k
    same = let e : Some h.first.key ≡ Some k = sym h.first.is ∙ is in cc

    -- if the key begins with f, the node has the front f
    counts : true ≡ begins f k → count ≡ set.len (parts (bytes kb) S f)
    counts b =
        let g : Bytes = s.front_of h.number in
        let gk : Begins g k = subst (Begins g) same h.first.front in
        let fk : Begins f k = Begins-from_begins f k (sym b) in
        let gf : Begins g f = Begins-linear g f k gk fk (let l : length g ≡ length f = h.as_long in omega arith) in
        let e : g ≡ f = Begins-equal g f gf (let l : length g ≡ length f = h.as_long in omega arith) in
        h.counted ∙ edges_are_parts kb S content distinct nodes root s h.number h.node h.is ∙ ap (λ (z : Bytes). set.len (parts (bytes kb) S z)) e

    -- if it does not, no node has the front f
    other : false ≡ begins f k → 0 ≡ set.len (parts (bytes kb) S f)
    other b = sym (no_parts kb S content distinct nodes root s f (λ m live e.
        (let fk : Begins f k = subst (Begins f) same (subst (λ (z : Bytes). Begins z h.first.key) (h.only m live e) h.first.front) in
        let u : begins f k ≡ true = begins-from_Begins f k fk in
        cc)))

pub children_of-requires : goal.children_of-requires
children_of-requires g c = (lit< tt, is_root c.requires.shape)

pub returns-in_default-clause-value : goal.returns-in_default-clause-value
returns-in_default-clause-value g c =
    nothing g.K.AsBytes.bytes c.args.leaves.now.pairs c.requires.content c.law.ensures.distinct c.requires.shape (c.in_default.ensures.finds _ c.requires.shape)

pub returns-in_default-clause-counted : goal.returns-in_default-clause-counted
returns-in_default-clause-counted g c =
    let h = c.in_default.ensures.finds _ c.requires.shape in
    nothing_soon g.K.AsBytes.bytes c.args.leaves.now.pairs c.requires.content c.law.ensures.distinct c.requires.shape h

pub read-requires : goal.read-requires
read-requires g c =
    let h = c.in-Some.ensures.finds _ c.requires.shape in
    has_key g.K.AsBytes.bytes c.args.leaves.now.pairs c.in-Some.found.1 h.first.key h.first.is

pub returns-then-begins-clause-value : goal.returns-then-begins-clause-value
returns-then-begins-clause-value g c =
    let h = c.in-Some.ensures.finds _ c.requires.shape in
    let is = key_read g.K.AsBytes.bytes c.args.leaves.now.pairs c.in-Some.found.1 c.read.ensures.value c.as_bytes.ensures in
    counts g.K.AsBytes.bytes c.args.leaves.now.pairs c.requires.content c.law.ensures.distinct c.requires.shape h is c.if-begins.ensures

pub returns-then-begins-clause-counted : goal.returns-then-begins-clause-counted
returns-then-begins-clause-counted g c =
    let h = c.in-Some.ensures.finds _ c.requires.shape in
    soon g.K.AsBytes.bytes c.args.leaves.now.pairs c.requires.content c.law.ensures.distinct c.requires.shape h c.read.ensures.counted

pub returns-else-begins-clause-value : goal.returns-else-begins-clause-value
returns-else-begins-clause-value g c =
    let h = c.in-Some.ensures.finds _ c.requires.shape in
    let is = key_read g.K.AsBytes.bytes c.args.leaves.now.pairs c.in-Some.found.1 c.read.ensures.value c.as_bytes.ensures in
    other g.K.AsBytes.bytes c.args.leaves.now.pairs c.requires.content c.law.ensures.distinct c.requires.shape h is c.if-begins.ensures

pub returns-else-begins-clause-counted : goal.returns-else-begins-clause-counted
returns-else-begins-clause-counted g c =
    let h = c.in-Some.ensures.finds _ c.requires.shape in
    soon g.K.AsBytes.bytes c.args.leaves.now.pairs c.requires.content c.law.ensures.distinct c.requires.shape h c.read.ensures.counted
