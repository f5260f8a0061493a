use Rattle.std.proofs.Common.{rules, sym, ap, ◌∙◌, map}
use Rattle.std.specs.declared.ops.Bound.TheVariants.{Included, Excluded, Unbounded}
use Rattle.blart_map.specs.Content.{pairs}
use Rattle.blart_set.specs.Elements.{elements}
use Rattle.blart_set.proofs.Images.{whole-keys, some_between-keys}
use Rattle.blart_set.proofs.Pairs.{between-keys}
use Rattle.blart_set.proofs.StoredBytes.{kept-stores, given-stores}
use Rattle.blart_set.proofs.set.TreeSet.split_off.Goals.{in-Ok, in-Err}
use Rattle.blart_set.proofs.set.TreeSet.split_off.Goals as goal

pub returns : goal.returns
unfolding elements
returns g c = elim c.match-split_off.branch [
  | in-Ok w ↦ record {
    kept = rw (← c.self.view_is) (rw w.result-is (kept-stores g.K.AsBytes.bytes (pairs c.self.inside.map) (pairs c.split_off.new.self) (g.Q.AsBytes.bytes c.args.query.now) w.in-Ok.ensures.kept));
    given = rw (← c.self.view_is) (rw w.result-is (given-stores g.K.AsBytes.bytes (pairs c.self.inside.map) (pairs w.in-Ok.map) (g.Q.AsBytes.bytes c.args.query.now) w.in-Ok.ensures.given));
    whole = rw (← c.self.view_is) (rw w.result-is (whole-keys g.K.AsBytes.bytes (pairs c.self.inside.map) (pairs c.split_off.new.self) (pairs w.in-Ok.map) w.in-Ok.ensures.whole));
    below = rw (← c.self.view_is) (rw w.result-is (ap (map (λ p. p.0)) w.in-Ok.ensures.below ∙ sym (between-keys g.K.AsBytes.bytes (pairs c.self.inside.map) Unbounded (Excluded (g.Q.AsBytes.bytes c.args.query.now)))));
    from = rw (← c.self.view_is) (rw w.result-is (ap (map (λ p. p.0)) w.in-Ok.ensures.from ∙ sym (between-keys g.K.AsBytes.bytes (pairs c.self.inside.map) (Included (g.Q.AsBytes.bytes c.args.query.now)) Unbounded)));
    err = rw w.result-is tt;
    refused = rw w.result-is tt;
    below_refused = rw w.result-is tt;
  }
  | in-Err w ↦ record {
    kept = rw w.result-is tt;
    given = rw w.result-is tt;
    whole = rw w.result-is tt;
    below = rw w.result-is tt;
    from = rw w.result-is tt;
    err = rw w.result-is (search rules);
    refused = rw (← c.self.view_is) (rw w.result-is (some_between-keys g.K.AsBytes.bytes (pairs c.self.inside.map) (Included (g.Q.AsBytes.bytes c.args.query.now)) Unbounded w.in-Err.ensures.refused));
    below_refused = rw (← c.self.view_is) (rw w.result-is (some_between-keys g.K.AsBytes.bytes (pairs c.self.inside.map) Unbounded (Excluded (g.Q.AsBytes.bytes c.args.query.now)) w.in-Err.ensures.below_refused));
  }
]
