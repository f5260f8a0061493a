use Rattle.std.proofs.Common.{List, subst}
use Rattle.art_tree.specs.Leaves.{Numbered, AreDistinct}
use Rattle.art_walk.specs.Cursor.{leaves_left}
use Rattle.blart_map.specs.EachWritten.{WritesLeft, LeavesPair}
use Rattle.blart_map.specs.LendingWalk.{lending_left}
use Rattle.blart_map.proofs.Written.EachWritten.{same_keys, same_length, walk_fits_after, writes_all, acts_on_pair}
use Rattle.blart_map.proofs.Written.WrittenWhere.{writes_where, writes_called, acts_within}
use Rattle.blart_map.proofs.walks.lending_walk.LendingWalk.for_each.Goals as goal

pub invariant_of-self : goal.invariant_of-self
invariant_of-self g c =
    let s = c.args.self in
    let r = subst (λ (l : List (Numbered g.row.K.Denot g.row.V.Denot)). WritesLeft (LeavesPair g.F.FnMut) (leaves_left c.args.self.cursor l) l c.args.f c.write_pairs.new.tree.pairs) c.map.view_is c.write_pairs.ensures.writes in
    record { fits = walk_fits_after (LeavesPair g.F.FnMut) s.cursor s.lent (lending_left s) s.map.now c.write_pairs.new.tree.pairs c.args.f r s.fits }

pub returns : goal.returns
returns g c =
    let s = c.args.self in
    let R = LeavesPair g.F.FnMut in
    let f = c.args.f in
    let r = subst (λ (l : List (Numbered g.row.K.Denot g.row.V.Denot)). WritesLeft (LeavesPair g.F.FnMut) (leaves_left c.args.self.cursor l) l c.args.f c.write_pairs.new.tree.pairs) c.map.view_is c.write_pairs.ensures.writes in
    let d = subst (λ (l : List (Numbered g.row.K.Denot g.row.V.Denot)). AreDistinct l) c.map.view_is c.write_pairs.ensures.distinct in
    let new = c.write_pairs.new.tree.pairs in
    record {
      left = r;
      keys = same_keys R (lending_left s) s.map.now new f r;
      len = same_length R (lending_left s) s.map.now new f r;
      each = λ S T test lends e. writes_called R test f (lending_left s) s.map.now new S T d r e lends.0 lends.1;
      acts = λ h acts. writes_all R h f (acts_on_pair g.F.FnMut f h acts) (lending_left s) s.map.now new r;
      within = λ S T test h e same some acts. writes_where R test h f acts.0 (acts_within g.F.FnMut f test h acts) (lending_left s) s.map.now new S T d r e same some;
    }
