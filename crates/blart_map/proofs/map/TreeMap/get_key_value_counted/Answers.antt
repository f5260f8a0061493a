use Rattle.std.proofs.Common.{sym, ◌∙◌, bytes_eq, Some, None, ap}
use Rattle.blart_keys.specs.Stored.{pair_at}
use Rattle.blart_keys.proofs.StoredLemmas.{pair_at_bytes}
use Rattle.art_tree.specs.Pairs.{pairs_of}
use Rattle.blart_map.specs.Content.{pairs}
use Rattle.art_edits.proofs.Numbers.{found_pairs, no_pairs}
use Rattle.blart_map.proofs.map.TreeMap.get_key_value_counted.Goals as goal

pub returns-in-Some-clause-value : goal.returns-in-Some-clause-value
unfolding pairs
returns-in-Some-clause-value g c =
    let kb = g.K.AsBytes.bytes in
    let q = g.Q.AsBytes.bytes c.args.query.now in
    let found = c.in-Some.found in
    rw (← c.self.view_is)
    (found_pairs (λ pair. bytes_eq (kb pair.0) q) c.self.inside.tree.pairs (Some (found.0, (found.1.now, found.2.now))) (rw c.as_bytes.ensures at c.in-Some.ensures.found))

pub returns-in-Some-clause-empty : goal.returns-in-Some-clause-empty
unfolding pairs
returns-in-Some-clause-empty g c = λ e. c.in-Some.ensures.empty (no_pairs c.self.inside.tree.pairs (ap pairs_of c.self.view_is ∙ e))

pub returns-in-None-clause-value : goal.returns-in-None-clause-value
unfolding pairs
returns-in-None-clause-value g c =
    let kb = g.K.AsBytes.bytes in
    let q = g.Q.AsBytes.bytes c.args.query.now in
    rw (← c.self.view_is)
    (found_pairs (λ pair. bytes_eq (kb pair.0) q) c.self.inside.tree.pairs None (rw c.as_bytes.ensures at c.in-None.ensures.found))

pub returns-in-None-clause-empty : goal.returns-in-None-clause-empty
unfolding pairs
returns-in-None-clause-empty g c = λ e. c.in-None.ensures.empty (no_pairs c.self.inside.tree.pairs (ap pairs_of c.self.view_is ∙ e))

pub returns-in-Some-clause-pair : goal.returns-in-Some-clause-pair
unfolding pair_at pairs
returns-in-Some-clause-pair g c = returns-in-Some-clause-value g c

pub returns-in-None-clause-pair : goal.returns-in-None-clause-pair
unfolding pair_at pairs
returns-in-None-clause-pair g c = returns-in-None-clause-value g c

pub returns-in-Some-clause-found : goal.returns-in-Some-clause-found
unfolding pairs
returns-in-Some-clause-found g c =
    let found = c.in-Some.found in
    pair_at_bytes g.K.AsBytes.bytes (pairs_of c.args.self.now) (g.Q.AsBytes.bytes c.args.query.now) (found.1.now, found.2.now) (sym (returns-in-Some-clause-pair g c))
