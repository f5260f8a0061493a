use Rattle.std.proofs.Common.{List, subst}
use Rattle.art_tree.specs.Leaves.{Numbered, AreDistinct}
use Rattle.art_walk.specs.Cursor.{leaves_left}
use Rattle.blart_map.specs.CountedWalk.{counted_left}
use Rattle.blart_map.specs.EachWritten.{WritesLeft, LeavesPair}
use Rattle.blart_map.proofs.Written.EachWritten.{same_keys, same_length, fits_after, writes_to, writes_all, writes_mapped, writes_stored, acts_on_pair}
use Rattle.blart_map.proofs.walks.counted_walk.CountedWalk+K+V+WithKeys+PREFIX_LEN.for_each.Goals as goal

pub invariant_of-self : goal.invariant_of-self
invariant_of-self g c =
    let s = c.args.self in
    let r = subst (λ (l : List (Numbered g.row.K.Denot g.row.V.Denot)). WritesLeft (LeavesPair g.F.FnMut) (leaves_left c.args.self.cursor l) l c.args.f c.write_pairs.new.tree.pairs) c.map.view_is c.write_pairs.ensures.writes in
    record { fits = fits_after (LeavesPair g.F.FnMut) s.cursor s.lent s.left (counted_left s) s.map.now c.write_pairs.new.tree.pairs c.args.f r s.fits }

pub returns : goal.returns
returns g c =
    let s = c.args.self in
    let R = LeavesPair g.F.FnMut in
    let f = c.args.f in
    let d = subst (λ (l : List (Numbered g.row.K.Denot g.row.V.Denot)). AreDistinct l) c.map.view_is c.write_pairs.ensures.distinct in
    let r = subst (λ (l : List (Numbered g.row.K.Denot g.row.V.Denot)). WritesLeft (LeavesPair g.F.FnMut) (leaves_left c.args.self.cursor l) l c.args.f c.write_pairs.new.tree.pairs) c.map.view_is c.write_pairs.ensures.writes in
    let new = c.write_pairs.new.tree.pairs in
    record {
      left = r;
      keys = same_keys R (counted_left s) s.map.now new f r;
      len = same_length R (counted_left s) s.map.now new f r;
      each = λ S T all e. writes_to R (counted_left s) s.map.now new S T f d r all.0 all.1 e;
      acts = λ h acts. writes_all R h f (acts_on_pair g.F.FnMut f h acts) (counted_left s) s.map.now new r;
      all = λ S T h all e acts. writes_mapped R h f (acts_on_pair g.F.FnMut f h acts) (counted_left s) s.map.now new S T d r all.0 all.1 e;
      stored = λ S T h q all e acts. writes_stored R h f (acts_on_pair g.F.FnMut f h acts) g.K.AsBytes.bytes q (counted_left s) s.map.now new S T d r all.0 all.1 e;
    }
