use Rattle.std.proofs.Common.{sym, ◌∙◌, subst, ap}
use Rattle.blart_keys.specs.Bytes.{begins}
use Rattle.blart_keys.specs.Stored.{CanCount}
use Rattle.blart_keys.proofs.Mapped.{filter-map}
use Rattle.blart_keys.proofs.StoredLemmas.{can_count_filter}
use Rattle.art_tree.specs.Pairs.{pairs_of}
use Rattle.art_edits.proofs.Numbers.{no_pairs}
use Rattle.blart_map.specs.Content.{pairs}
use Rattle.blart_map.proofs.Passed.Walking.{longest_pairs}
use Rattle.blart_map.proofs.map.TreeMap.prefix_counted.Goals as goal

pub returns-clause-value : goal.returns-clause-value
unfolding pairs
returns-clause-value g c =
    let kb = g.K.AsBytes.bytes in
    let ps = c.self.inside.tree.pairs in
    rw (← c.self.view_is) (c.new.ensures.value ∙ sym (filter-map (λ p. p.1) (λ pair. begins c.args.front.now (kb pair.0)) ps))

pub returns-clause-counted : goal.returns-clause-counted
unfolding pairs
returns-clause-counted g c = rw (← c.self.view_is, longest_pairs g.K.AsBytes.bytes c.self.inside.tree.pairs) c.new.ensures.counted

pub returns-clause-empty : goal.returns-clause-empty
unfolding pairs
returns-clause-empty g c = λ e. c.new.ensures.empty (no_pairs c.self.inside.tree.pairs (ap pairs_of c.self.view_is ∙ e))

pub returns-clause-fits : goal.returns-clause-fits
unfolding pairs
returns-clause-fits g c =
    let kb = g.K.AsBytes.bytes in
    subst CanCount (sym (returns-clause-value g c)) (can_count_filter (λ pair. begins c.args.front.now (kb pair.0)) (pairs_of c.args.self.now) c.law.ensures.fits)

pub returns-clause-some_counted : goal.returns-clause-some_counted
unfolding pairs
returns-clause-some_counted g c = λ bytes some. c.new.ensures.some_counted bytes (λ e. some (ap pairs_of (sym c.self.view_is ∙ e)))
