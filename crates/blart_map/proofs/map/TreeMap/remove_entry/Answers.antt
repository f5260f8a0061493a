use Rattle.std.proofs.Common.{◌≡◌, bytes_eq, sym, refl, ap, ◌∙◌, subst, ℕ, List, Option, Some, IfSome, None, ◌+◌, ◌&&◌, length, is_some, if◌then◌else◌}
use Rattle.blart_keys.specs.Bytes.{begins}
use Rattle.blart_keys.specs.Content.{without}
use Rattle.blart_keys.specs.Steps.{bytes}
use Rattle.blart_keys.specs.Stored.{pair_at, pair_at_front, Updates, has}
use Rattle.blart_keys.proofs.StoredLemmas.{updates_without, len_without, pair_at_bytes, routes_without}
use Rattle.art_tree.specs.Pairs.{pairs_of}
use Rattle.blart_map.specs.Content.{pairs}
use Rattle.art_edits.proofs.Numbers.{whole_pairs, found_pairs, without_pairs}
use Rattle.blart_map.proofs.map.TreeMap.remove_entry.Goals as goal

-- a pair that is found at the bytes q has these bytes
found_bytes : {K V : Type 0} (kb : K → List ℕ) (S : List (K × V)) (q : List ℕ) (o : Option (K × V)) → pair_at kb S q ≡ o → IfSome o (λ (pair : K × V). kb pair.0 ≡ q)
found_bytes kb S q None e = tt
found_bytes kb S q (Some x) e = pair_at_bytes kb S q x e

pub returns : goal.returns
unfolding pair_at pairs
returns g c =
    let kb = g.K.AsBytes.bytes in
    let q = g.Q.AsBytes.bytes c.args.query.now in
    let ps = c.self.inside.tree.pairs in
    let S = pairs_of c.args.self.now in
    let S' = pairs_of c.take.new.self.pairs in
    let content = whole_pairs kb ps S (ap pairs_of c.self.view_is) c.law.ensures.content in
    let removed : c.take.result ≡ pair_at kb S q = rw (← c.self.view_is) (rw c.as_bytes.ensures at c.take.ensures.taken ∙ found_pairs (λ pair. bytes_eq (kb pair.0) q) ps _ refl) in
    let rest : S' ≡ without (bytes kb) S q = rw (← c.self.view_is) (ap pairs_of (rw c.as_bytes.ensures at c.take.ensures.rest) ∙ without_pairs kb q ps) in
    record {
      stored = removed;
      updates = subst (λ T. Updates kb S T q None) (sym rest) (updates_without kb S q);
      routes = λ r. subst (λ T. pair_at_front kb T r ≡ (if begins q r && has kb S q then None else pair_at_front kb S r)) (sym rest) (routes_without kb S content q r);
      len = ap (λ b. length S' + (if b then 1 else 0)) (ap (λ o. is_some o) removed) ∙ subst (λ T. length T + (if has kb S q then 1 else 0) ≡ length S) (sym rest) (len_without kb S q content);
      found = found_bytes kb S q c.take.result (sym removed);
      removed = removed;
      rest = rest;
    }
