use Rattle.std.proofs.Common.{◌∙◌, ap, sym}
use Rattle.art_kinds.specs.Nodes.{at}
use Rattle.art_tree.proofs.Invariant.Soundness.{rootless}
use Rattle.art_tree.proofs.tree.Tree.point.Goals as goal

pub returns-in-None : goal.returns-in-None
returns-in-None g c = ap (λ t. t.pairs) (sym c.self.view_is) ∙ rootless g.K.AsBytes.bytes c.self.inside.leaves.pairs (at c.self.inside.skeleton.nodes) c.self.inside.skeleton.root c.self.invariant.shape c.in-None.is
