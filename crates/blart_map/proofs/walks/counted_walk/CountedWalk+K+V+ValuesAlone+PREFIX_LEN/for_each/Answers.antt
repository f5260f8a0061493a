use Rattle.std.proofs.Common.{List, subst, ap, ◌∙◌, option_map}
use Rattle.blart_keys.specs.Stored.{pair_at}
use Rattle.art_tree.specs.Leaves.{Numbered, AreDistinct}
use Rattle.art_walk.specs.Cursor.{leaves_left}
use Rattle.blart_map.specs.Content.{pairs}
use Rattle.blart_map.specs.CountedWalk.{counted_left}
use Rattle.blart_map.specs.EachWritten.{WritesLeft, LeavesValue}
use Rattle.blart_map.proofs.Written.EachWritten.{same_keys, same_length, fits_after, writes_to, writes_all, writes_mapped, writes_stored, value_mapped, acts_on_value}
use Rattle.blart_map.proofs.walks.counted_walk.CountedWalk+K+V+ValuesAlone+PREFIX_LEN.for_each.Goals as goal

pub invariant_of-self : goal.invariant_of-self
invariant_of-self g c =
    let s = c.args.self in
    let r = subst (λ (l : List (Numbered g.row.K.Denot g.row.V.Denot)). WritesLeft (LeavesValue g.F.FnMut) (leaves_left c.args.self.cursor l) l c.args.f c.write_values.new.tree.pairs) c.map.view_is c.write_values.ensures.writes in
    record { fits = fits_after (LeavesValue g.F.FnMut) s.cursor s.lent s.left (counted_left s) s.map.now c.write_values.new.tree.pairs c.args.f r s.fits }

pub returns : goal.returns
returns g c =
    let s = c.args.self in
    let R = LeavesValue g.F.FnMut in
    let f = c.args.f in
    let d = subst (λ (l : List (Numbered g.row.K.Denot g.row.V.Denot)). AreDistinct l) c.map.view_is c.write_values.ensures.distinct in
    let r = subst (λ (l : List (Numbered g.row.K.Denot g.row.V.Denot)). WritesLeft (LeavesValue g.F.FnMut) (leaves_left c.args.self.cursor l) l c.args.f c.write_values.new.tree.pairs) c.map.view_is c.write_values.ensures.writes in
    let new = c.write_values.new.tree.pairs in
    record {
      left = r;
      keys = same_keys R (counted_left s) s.map.now new f r;
      len = same_length R (counted_left s) s.map.now new f r;
      each = λ S T all e. writes_to R (counted_left s) s.map.now new S T f d r all.0 all.1 e;
      acts = λ h acts. writes_all R h f (acts_on_value g.F.FnMut f h acts) (counted_left s) s.map.now new r;
      all = λ S T h all e acts. writes_mapped R h f (acts_on_value g.F.FnMut f h acts) (counted_left s) s.map.now new S T d r all.0 all.1 e;
      stored = λ S T h q all e acts.
          let k : g.row.K.Denot × g.row.V.Denot → g.row.K.Denot × g.row.V.Denot = λ p. (p.0, h p.1) in
          ap (option_map (λ (p : g.row.K.Denot × g.row.V.Denot). p.1)) (writes_stored R k f (acts_on_value g.F.FnMut f k acts) g.K.AsBytes.bytes q (counted_left s) s.map.now new S T d r all.0 all.1 e)
          ∙ value_mapped h (pair_at g.K.AsBytes.bytes (pairs S) q);
    }
