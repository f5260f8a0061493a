use Rattle.std.proofs.Common.{◌≡◌, ◌-◌, ◌≤◌, length, ◌∙◌, ap, arith}
use Rattle.std.specs.FinSet as set
use Rattle.blart_keys.specs.Fronts.{fronts}
use Rattle.blart_keys.proofs.FrontSizes.{front_count}
use Rattle.art_tree.specs.Leaves.{bytes}
use Rattle.art_tree.proofs.Invariant.Counting.{nodes_are_fronts}
use Rattle.art_tree.proofs.tree.Tree.inner_nodes.Goals as goal

pub returns-clause-value : goal.returns-clause-value
returns-clause-value g c =
    let i = c.self.inside in
    c.live.ensures
    ∙ nodes_are_fronts g.K.AsBytes.bytes i.leaves.pairs i.skeleton.nodes i.skeleton.root c.self.invariant.content c.law.ensures.distinct c.self.invariant.shape
    ∙ ap (λ t. set.len (fronts (bytes g.K.AsBytes.bytes) t.pairs)) c.self.view_is

pub returns-clause-fewer : goal.returns-clause-fewer
returns-clause-fewer g c =
    let kb = g.K.AsBytes.bytes in
    let S = c.args.self.now.pairs in
    let e : c.live.result ≡ set.len (fronts (bytes kb) S) = returns-clause-value g c in
    let few : set.len (fronts (bytes kb) S) ≤ length S - 1 = front_count (bytes kb) S in
    omega arith
