use Rattle.art_kinds.proofs.Copies.{same_copy, copy_kind}
use Rattle.art_kinds.proofs.Moving.{same_nodes}
use Rattle.art_kinds.proofs.records.nodes.Nodes.clone.Goals as goal

pub invariant_of-result : goal.invariant_of-result
invariant_of-result g c =
    let v = c.self.invariant in
    let a = c.in_ok-clone.ensures in
    let b = c.in_ok-clone-2.ensures in
    let d = c.in_ok-clone-3.ensures in
    let e = c.in_ok-clone-4.ensures in
    record {
      fours = copy_kind _ _ v.fours a.cloned a.used a.spare;
      sixteens = copy_kind _ _ v.sixteens b.cloned b.used b.spare;
      forty_eights = copy_kind _ _ v.forty_eights d.cloned d.used d.spare;
      fulls = copy_kind _ _ v.fulls e.cloned e.used e.spare;
    }

pub returns : goal.returns
returns g c =
    let i = c.self.inside in
    let a = c.in_ok-clone in
    let b = c.in_ok-clone-2 in
    let d = c.in_ok-clone-3 in
    let e = c.in_ok-clone-4 in
    record {
      same = same_nodes c.self.view_is a.field-0 b.field-0 d.field-0 e.field-0
          (same_copy i.fours a.field-0 a.ensures.cloned) (same_copy i.sixteens b.field-0 b.ensures.cloned)
          (same_copy i.forty_eights d.field-0 d.ensures.cloned) (same_copy i.fulls e.field-0 e.ensures.cloned);
    }
