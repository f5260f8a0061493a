use Rattle.std.proofs.Common.{◌≡◌, ◌∙◌, lit<, ℕ, List, [], Option, Some, None, ap, sym, subst}
use Rattle.std.specs.FinSet as set
use Rattle.blart_keys.specs.Content.{IsContent}
use Rattle.blart_keys.specs.Fronts.{parts}
use Rattle.art_tree.specs.Begins.{Bytes}
use Rattle.art_tree.specs.Leaves.{Numbered, AreDistinct, keys_in, bytes}
use Rattle.art_kinds.specs.Nodes.{Node, at}
use Rattle.art_tree.specs.Invariant.Shape.{Shape}
use Rattle.art_kinds.specs.declared.records.ids.Child.{Child}
use Rattle.art_tree.proofs.Invariant.Counting.{no_parts}
use Rattle.blart_keys.proofs.Options.{some_of}
use Rattle.art_tree.proofs.Invariant.SameShapes.{rooted}
use Rattle.art_tree.proofs.Invariant.Soundness.{rootless}
use Rattle.art_tree.proofs.tree.Tree.children_at.Goals as goal

-- without a root there are no keys, and so no keys part
rootless_value : {K V : Type 0} {P : ℕ} (kb : K → List ℕ) (S : List (Numbered K V)) (content : IsContent (bytes kb) S) (distinct : AreDistinct S) (nodes : ℕ → Option Node) (root : Option Child) (s : Shape P (keys_in kb S) nodes root) (f : Bytes) → root ≡ None → 0 ≡ set.len (parts (bytes kb) S f)
rootless_value {K} {V} kb S content distinct nodes root s f e = sym (no_parts kb S content distinct nodes root s f (λ m live p.
    (let x = some_of (nodes m) live in
    let p = (s.node m x.0 x.1).parts in
    let is : keys_in {V = V} kb [] p.i ≡ Some p.k = subst (λ (T : List (Numbered K V)). keys_in kb T p.i ≡ Some p.k) (rootless kb S nodes root s e) p.k_is in
    let never : None ≡ Some p.k = is in
    cc)))

pub returns-in-None-clause-value : goal.returns-in-None-clause-value
returns-in-None-clause-value g c =
    let kb = g.K.AsBytes.bytes in
    let i = c.self.inside in
    rootless_value kb i.leaves.pairs c.self.invariant.content c.law.ensures.distinct (at i.skeleton.nodes) i.skeleton.root c.self.invariant.shape c.args.front.now c.in-None.is
    ∙ ap (λ t. set.len (parts (bytes kb) t.pairs c.args.front.now)) c.self.view_is

pub children_below-requires : goal.children_below-requires
children_below-requires g c =
    let i = c.self.inside in
    (lit< tt, record { content = c.self.invariant.content; shape = rooted c.self.invariant.shape c.in-Some.is })
