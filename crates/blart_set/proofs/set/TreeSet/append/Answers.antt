use Rattle.std.proofs.Common.{rules, ap, map}
use Rattle.std.proofs.lemmas.Result.{on_ok_weaker, on_err_weaker}
use Rattle.blart_map.specs.Content.{pairs}
use Rattle.blart_set.specs.Elements.{elements}
use Rattle.blart_set.proofs.Images.{union_images, joined-keys, some_images}
use Rattle.blart_set.proofs.StoredBytes.{appended-stores}
use Rattle.blart_set.proofs.set.TreeSet.append.Goals as goal

pub returns : goal.returns
unfolding elements
returns g c = record {
  stored = rw (← c.self.view_is) (rw (← c.other.view_is) (on_ok_weaker c.append.result (appended-stores g.K.AsBytes.bytes (pairs c.self.inside.map) (pairs c.other.inside.map) (pairs c.append.new.self)) c.append.ensures.found));
  appended = rw (← c.self.view_is) (rw (← c.other.view_is) (on_ok_weaker c.append.result (union_images (λ p. p.0) g.K.AsBytes.bytes (pairs c.other.inside.map) (pairs c.self.inside.map) (pairs c.append.new.self)) c.append.ensures.appended));
  joined = rw (← c.self.view_is) (rw (← c.other.view_is) (on_ok_weaker c.append.result (joined-keys g.K.AsBytes.bytes (pairs c.self.inside.map) (pairs c.other.inside.map) (pairs c.append.new.self)) c.append.ensures.joined));
  emptied = on_ok_weaker c.append.result (ap (map (λ p. p.0))) c.append.ensures.emptied;
  err = search rules;
  other_err = search rules;
  refused = rw (← c.self.view_is) (on_err_weaker c.append.result (some_images (λ p. p.0) (pairs c.self.inside.map)) c.append.ensures.refused);
  other_refused = rw (← c.other.view_is) (on_err_weaker c.append.result (some_images (λ p. p.0) (pairs c.other.inside.map)) c.append.ensures.other_refused);
}
