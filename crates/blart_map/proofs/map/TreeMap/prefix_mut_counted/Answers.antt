use Rattle.std.proofs.Common.{◌∙◌, ap, sym}
use Rattle.blart_keys.specs.Bytes.{begins}
use Rattle.art_tree.specs.Pairs.{pairs_of}
use Rattle.art_edits.proofs.Numbers.{no_pairs}
use Rattle.blart_map.specs.Content.{pairs}
use Rattle.blart_map.proofs.Passed.Walking.{longest_pairs}
use Rattle.blart_map.proofs.Written.OnceWritten.{opened_written}
use Rattle.blart_map.proofs.map.TreeMap.prefix_mut_counted.Goals as goal

pub returns-clause-all : goal.returns-clause-all
returns-clause-all g c f =
    let kb = g.K.AsBytes.bytes in
    opened_written f c.prefix-below.result c.of.result.cursor c.self.inside.tree.pairs c.args.self.now c.of.result.map.now c.self.view_is c.of.ensures.unchanged c.numbers_law.ensures.distinct c.of.ensures.same_cursor (λ pair. begins c.args.front.now (kb pair.0)) c.prefix-below.ensures.left

pub returns-clause-counted : goal.returns-clause-counted
unfolding pairs
returns-clause-counted g c =
    rw (← c.self.view_is, longest_pairs g.K.AsBytes.bytes c.self.inside.tree.pairs)
    c.prefix-below.ensures.counted

pub returns-clause-empty : goal.returns-clause-empty
unfolding pairs
returns-clause-empty g c = λ e. c.prefix-below.ensures.empty (no_pairs c.self.inside.tree.pairs (ap pairs_of c.self.view_is ∙ e))

pub returns-clause-some_counted : goal.returns-clause-some_counted
unfolding pairs
returns-clause-some_counted g c = λ bytes some. c.prefix-below.ensures.some_counted bytes (λ e. some (ap pairs_of (sym c.self.view_is ∙ e)))
