use Rattle.std.proofs.Common.{◌≡◌, arith, List, length, not, sym, ap, ◌∙◌, subst, None}
use Rattle.std.proofs.lemmas.List.{length-map}
use Rattle.blart_keys.specs.Bytes.{begins}
use Rattle.blart_keys.specs.Content.{under}
use Rattle.blart_keys.specs.Outside.{outside}
use Rattle.blart_keys.specs.Steps.{bytes}
use Rattle.blart_keys.specs.Stored.{pair_at, pair_at_front}
use Rattle.blart_keys.proofs.Mapped.{filter-map}
use Rattle.blart_keys.proofs.OutsideLemmas.{length_outside, pair_at_gone, pair_at_outside, pair_at_front_outside}
use Rattle.art_tree.specs.Pairs.{pairs_of}
use Rattle.blart_map.specs.Content.{pairs}
use Rattle.blart_map.proofs.map.TreeMap.remove_prefix.Goals as goal

pub returns : goal.returns
unfolding pairs
returns g c =
    let kb = g.K.AsBytes.bytes in
    let q = c.args.prefix.now in
    let ps = c.self.inside.tree.pairs in
    let S = pairs_of c.args.self.now in
    let rest : pairs_of c.remove_prefix.new.self.pairs ≡ outside (bytes kb) S q = rw (← c.self.view_is) (ap pairs_of c.remove_prefix.ensures.rest ∙ sym (filter-map (λ p. p.1) (λ p. not (begins q (kb p.0))) ps)) in
    let count : c.remove_prefix.result ≡ length (under (bytes kb) S q) = rw (← c.self.view_is) (c.remove_prefix.ensures.count ∙ sym (ap (λ (T : List _). length T) (filter-map (λ p. p.1) (λ p. begins q (kb p.0)) ps) ∙ length-map _ _)) in
    let all = length_outside (bytes kb) S q in
    let l = ap (λ (T : List _). length T) rest in
    record {
      gone = λ r b. subst (λ T. pair_at kb T r ≡ None) (sym rest) (pair_at_gone kb S q r b);
      others = λ r b. subst (λ T. pair_at kb T r ≡ pair_at kb S r) (sym rest) (pair_at_outside kb S q r b);
      fronts = λ r b. subst (λ T. pair_at_front kb T r ≡ pair_at_front kb S r) (sym rest) (pair_at_front_outside kb S q r b);
      len = omega (arith, all, l, count);
      count = count;
      rest = rest;
    }
