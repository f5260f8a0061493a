use Rattle.std.proofs.Common.{refl, ap, option_map}
use Rattle.std.specs.Option.{unwrap_or}
use Rattle.std.specs.Prelude.{[]}
use Rattle.blart_keys.proofs.Options.{is_some}
use Rattle.blart_keys.proofs.StoredLemmas.{overwrites_over}
use Rattle.art_tree.specs.Leaves.{leaf_in}
use Rattle.art_tree.specs.Pairs.{pairs_of}
use Rattle.blart_map.specs.Content.{pairs}
use Rattle.blart_map.proofs.inner.InnerOccupiedEntry+K+V+PREFIX_LEN+TreeMap+K+V+PREFIX_LEN.insert_entry.Goals as goal

pub invariant_of-result : goal.invariant_of-result
invariant_of-result g c = record { stands = is_some (leaf_in c.overwrite.new.self c.args.self.last) (c.args.self.key, c.args.value) c.overwrite.ensures.now }

pub returns : goal.returns
unfolding pairs
returns g c =
    let e = c.args.self in
    let kb = g.K.AsBytes.bytes in
    let over = overwrites_over kb (pairs_of e.map.now) (pairs_of c.overwrite.new.self) (e.key, c.args.value) c.overwrite.ensures.content c.overwrite.ensures.over in
    record {
      same_map = refl;
      set = (over, ap (option_map (λ p. p.1)) over.there, c.overwrite.ensures.over);
      pair = c.overwrite.ensures.now;
      same_bytes = ap (λ o. unwrap_or (option_map (λ x. kb x.0) o) []) c.overwrite.ensures.now;
    }
