use Rattle.std.proofs.Common.{◌+◌, ◌≡◌, List, sym, ◌∙◌, ap, map, not, length, is_some, subst, false}
use Rattle.std.proofs.lemmas.List.{length-map}
use Rattle.blart_keys.specs.Bytes.{begins}
use Rattle.blart_keys.specs.Content.{stores}
use Rattle.blart_keys.specs.Outside.{outside}
use Rattle.blart_keys.proofs.Mapped.{filter-map}
use Rattle.blart_keys.proofs.OutsideLemmas.{at_gone, at_outside}
use Rattle.blart_keys.proofs.StoredLemmas.{some-at}
use Rattle.blart_map.specs.Content.{pairs}
use Rattle.blart_set.specs.Elements.{elements}
use Rattle.blart_set.proofs.Pairs.{under-keys}
use Rattle.blart_set.proofs.set.TreeSet.remove_prefix.Goals as goal

pub returns : goal.returns
unfolding elements
returns g c =
    let kb = g.K.AsBytes.bytes in
    let q = c.args.prefix.now in
    let S = elements c.args.self.now in
    let rest : elements c.remove_prefix.new.self ≡ outside kb S q = rw (← c.self.view_is) (ap (map (λ p. p.0)) c.remove_prefix.ensures.rest ∙ sym (filter-map (λ p. p.0) (λ k. not (begins q (kb k))) (pairs c.self.inside.map))) in
    record {
      gone = λ r b. subst (λ T. stores kb T r ≡ false) (sym rest) (sym (some-at kb _ r) ∙ ap (λ o. is_some o) (at_gone kb S q r b));
      others = λ r b. subst (λ T. stores kb T r ≡ stores kb S r) (sym rest) (sym (some-at kb _ r) ∙ ap (λ o. is_some o) (at_outside kb S q r b) ∙ some-at kb S r);
      len = rw (← c.self.view_is) (ap (λ n. n + c.remove_prefix.result) (length-map (pairs c.remove_prefix.new.self) (λ (p : g.row.K.Denot × Unit {0}). p.0)) ∙ c.remove_prefix.ensures.len ∙ sym (length-map (pairs c.self.inside.map) (λ (p : g.row.K.Denot × Unit {0}). p.0)));
      count = rw (← c.self.view_is) (c.remove_prefix.ensures.count ∙ sym (ap (λ (S : List _). length S) (under-keys kb (pairs c.self.inside.map) q) ∙ length-map _ _));
      rest = rest;
    }
