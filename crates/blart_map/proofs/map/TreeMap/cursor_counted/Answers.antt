use Rattle.std.proofs.Common.{sym, ◌∙◌, ap, ◌&&◌}
use Rattle.blart_keys.specs.Bounds.{bound_bytes, is_from_start, is_up_to_end}
use Rattle.blart_keys.proofs.Mapped.{filter-map}
use Rattle.art_tree.specs.Pairs.{pairs_of}
use Rattle.blart_map.specs.Content.{pairs}
use Rattle.art_edits.proofs.Numbers.{no_pairs}
use Rattle.blart_map.proofs.Passed.Walking.{longest_pairs}
use Rattle.blart_map.proofs.map.TreeMap.cursor_counted.Goals as goal

pub returns-clause-left : goal.returns-clause-left
unfolding pairs
returns-clause-left g c =
    let kb = g.K.AsBytes.bytes in
    let ps = c.self.inside.tree.pairs in
    let lo = bound_bytes g.Q.AsBytes.bytes c.args.start in
    let hi = bound_bytes g.Q.AsBytes.bytes c.args.end in
    let left = rw (c.as_bytes.ensures, c.as_bytes-2.ensures) at c.range.ensures.left in
    rw (← c.self.view_is) (ap pairs_of left ∙ sym (filter-map (λ p. p.1) (λ pair. is_from_start lo (kb pair.0) && is_up_to_end hi (kb pair.0)) ps))

pub returns-clause-leaves : goal.returns-clause-leaves
returns-clause-leaves g c = rw (← c.self.view_is) (rw (c.as_bytes.ensures, c.as_bytes-2.ensures) at c.range.ensures.left)

pub returns-clause-counted : goal.returns-clause-counted
unfolding pairs
returns-clause-counted g c =
    rw (← c.self.view_is, longest_pairs g.K.AsBytes.bytes c.self.inside.tree.pairs)
    (rw (c.as_bytes.ensures, c.as_bytes-2.ensures) at c.range.ensures.counted)

pub returns-clause-empty : goal.returns-clause-empty
unfolding pairs
returns-clause-empty g c = λ e. c.range.ensures.empty (no_pairs c.self.inside.tree.pairs (ap pairs_of c.self.view_is ∙ e))

pub returns-clause-some_counted : goal.returns-clause-some_counted
unfolding pairs
returns-clause-some_counted g c = λ some. c.range.ensures.some_counted (λ e. some (ap pairs_of (sym c.self.view_is ∙ e)))
