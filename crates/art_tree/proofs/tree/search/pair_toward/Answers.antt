use Rattle.std.proofs.Common.{lit<}
use Rattle.art_tree.specs.Leaves.{keys_in}
use Rattle.art_kinds.specs.Nodes.{at}
use Rattle.art_tree.proofs.Invariant.SameShapes.{rooted}
use Rattle.art_tree.proofs.NumberedPairs.LookUps.{only_has}
use Rattle.art_tree.proofs.Ways.Roots.{is_root}
use Rattle.art_tree.proofs.Ways.ToQuery.{root_none}
use Rattle.art_tree.proofs.tree.search.pair_toward.Goals as goal

pub returns-in_default-clause-found : goal.returns-in_default-clause-found
returns-in_default-clause-found g c = root_none (keys_in g.K.AsBytes.bytes c.args.leaves.now.pairs) c.args.query.now (at c.args.nodes.now) c.args.root.now c.requires.shape c.in_default.is

pub leaf_toward-requires : goal.leaf_toward-requires
leaf_toward-requires g c =
    (lit< tt, is_root (rooted c.requires.shape c.in-Some.is))

pub returns-in_err-path-clause-found : goal.returns-in_err-path-clause-found
returns-in_err-path-clause-found g c = rw c.from_residual.ensures (c.in_err-path.ensures.goes _ (rooted c.requires.shape c.in-Some.is))

pub read-requires : goal.read-requires
read-requires g c = only_has g.K.AsBytes.bytes c.args.leaves.now.pairs c.args.query.now c.in_ok-path.path.id (c.in_ok-path.ensures.goes _ (rooted c.requires.shape c.in-Some.is))
