use Rattle.std.proofs.Common.{sym, subst}
use Rattle.art_kinds.specs.Nodes.{at}
use Rattle.art_rows.proofs.CallerLemmas.{numbers-copies}
use Rattle.art_tree.specs.Content.{Content}
use Rattle.art_tree.specs.Leaves.{keys_in}
use Rattle.art_tree.proofs.Invariant.SameShapes.{rekeyed, renoded}
use Rattle.art_tree.proofs.NumberedPairs.Copies.{AreFirm, clones-copies, content-copies, keys-copies}
use Rattle.art_tree.proofs.tree.Tree.clone.Goals as goal

pub invariant_of-result : goal.invariant_of-result
invariant_of-result g c =
    let kb = g.K.AsBytes.bytes in
    let i = c.self.inside in
    let ps = i.leaves.pairs in
    let qs = c.in_ok-clone.field-0.pairs in
    let copies = c.in_ok-clone.ensures.cloned in
    let firm : AreFirm kb g.K.Clone.is_clone g.V.Clone.is_clone ps = subst (λ (t : Content g.row.K.Denot g.row.V.Denot). AreFirm kb g.K.Clone.is_clone g.V.Clone.is_clone t.pairs) (sym c.self.view_is) c.requires in
    let keyed = rekeyed (keys_in kb ps) (keys_in kb qs) (at i.skeleton.nodes) i.skeleton.root c.self.invariant.shape (keys-copies kb g.K.Clone.is_clone g.V.Clone.is_clone ps qs firm copies) in
    record {
      content = content-copies kb g.K.Clone.is_clone g.V.Clone.is_clone ps qs firm copies c.self.invariant.content;
      shape = renoded (keys_in kb qs) (at i.skeleton.nodes) (at c.in_ok-clone-2.field-0) i.skeleton.root keyed c.in_ok-clone-2.ensures.same;
    }

pub returns : goal.returns
returns g c =
    let kb = g.K.AsBytes.bytes in
    let i = c.self.inside in
    let ps = i.leaves.pairs in
    let qs = c.in_ok-clone.field-0.pairs in
    let copies = c.in_ok-clone.ensures.cloned in
    let firm : AreFirm kb g.K.Clone.is_clone g.V.Clone.is_clone ps = subst (λ (t : Content g.row.K.Denot g.row.V.Denot). AreFirm kb g.K.Clone.is_clone g.V.Clone.is_clone t.pairs) (sym c.self.view_is) c.requires in
    rw (← c.self.view_is) (record {
      cloned = clones-copies kb g.K.Clone.is_clone g.V.Clone.is_clone ps qs firm copies;
      numbers = numbers-copies g.K.Clone.is_clone g.V.Clone.is_clone ps qs copies;
    })
