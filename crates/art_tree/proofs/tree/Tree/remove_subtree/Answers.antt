use Rattle.std.proofs.Common.{◌≡◌, ◌∙◌, List, Option, [], lit<, sym, ap, subst, refl}
use Rattle.blart_keys.specs.Outside.{outside}
use Rattle.blart_keys.proofs.Options.{some_of, none_of}
use Rattle.art_kinds.specs.Nodes.{at}
use Rattle.art_kinds.specs.declared.records.ids.Child.{Child}
use Rattle.art_tree.specs.Calls.Pruning.{IsSubtreeWith}
use Rattle.art_tree.specs.Invariant.Shape.{Shape}
use Rattle.art_tree.specs.Leaves.{bytes, keys_in}
use Rattle.art_tree.proofs.Invariant.Soundness.{rootless}
use Rattle.art_tree.proofs.NumberedPairs.Outside.{first_has, none_below, outside_last}
use Rattle.art_tree.proofs.tree.Tree.remove_subtree.Goals as goal

pub returns-in_default : goal.returns-in_default
returns-in_default g c =
    let kb = g.K.AsBytes.bytes in
    let i = c.self.inside in
    let bare = none_of i.skeleton.root (λ t. let f = some_of i.skeleton.root t in c.in_default.not-Some f.0 f.1) in
    let none : c.args.self.now.pairs ≡ [] = ap (λ t. t.pairs) (sym c.self.view_is) ∙ rootless kb i.leaves.pairs (at i.skeleton.nodes) i.skeleton.root c.self.invariant.shape bare in
    none ∙ sym (ap (λ (S : List _). outside (bytes kb) S c.args.prefix.now) none)

pub returns-in_default-subtree_below : goal.returns-in_default-subtree_below
returns-in_default-subtree_below g c =
    let kb = g.K.AsBytes.bytes in
    let q = c.args.prefix.now in
    subst (λ (S : List _). S ≡ outside (bytes kb) S q) (ap (λ t. t.pairs) c.self.view_is) (sym (none_below kb c.self.inside.leaves.pairs q c.in_default-subtree_below.ensures.found))

pub prune-requires : goal.prune-requires
prune-requires g c =
    let kb = g.K.AsBytes.bytes in
    let i = c.self.inside in
    let found = c.in-Some-subtree_below.ensures in
    let keys = keys_in kb i.leaves.pairs in
    let nodes = at i.skeleton.nodes in
    let subtree = subst (λ (z : Option Child). (s : Shape g.row.PREFIX_LEN keys nodes z) → IsSubtreeWith keys nodes z s.front_of c.args.prefix.now c.in-Some-subtree_below.subtree) (sym c.in-Some.is) found.subtree in
    (lit< tt, (c.self.invariant, (subtree, sym found.found)))

pub remove-requires : goal.remove-requires
remove-requires g c =
    let last = c.in-Some-subtree_below.subtree.last in
    (lit< tt, first_has g.K.AsBytes.bytes c.prune.new.leaves.pairs c.args.prefix.now c.law.ensures.distinct last last c.prune.ensures.ends)

pub returns : goal.returns
returns g c =
    let kb = g.K.AsBytes.bytes in
    let q = c.args.prefix.now in
    let last = c.in-Some-subtree_below.subtree.last in
    c.remove.ensures.rest ∙ outside_last kb c.prune.new.leaves.pairs q c.law.ensures.distinct last last c.prune.ensures.ends refl ∙ c.prune.ensures.rest ∙ ap (λ t. outside (bytes kb) t.pairs q) c.self.view_is
