use Rattle.std.proofs.Common.{◌≡◌, ◌∙◌, refl, sym, ap, subst, option_map, Some}
use Rattle.art_tree.specs.Leaves.{with_value}
use Rattle.blart_map.specs.Content.{pairs}
use Rattle.blart_map.specs.InnerEntry.{over_leaf, IsOverSet}
use Rattle.art_edits.specs.Spans.{thinned}
use Rattle.art_edits.proofs.Related.OverWritten.{written_now, over_written}
use Rattle.blart_map.proofs.inner.InnerOccupiedEntry+K+V+PREFIX_LEN+TreeMap+K+V+PREFIX_LEN.insert.Goals as goal

pub returns : goal.returns
unfolding pairs
returns g c =
    let e = c.args.self in
    let kb = g.K.AsBytes.bytes in
    let new = c.overwrite.new.self in
    let seen : Some c.args.value ≡ Some c.value_mut.result.now = sym (ap (option_map (λ p. p.1)) c.overwrite.ensures.now) ∙ c.value_mut.ensures.value in
    let is : c.value_mut.result.now ≡ c.args.value = cc in
    let list : (w : g.row.V.Denot) → with_value new e.last w ≡ over_leaf e w = λ w. ap (λ l. with_value l e.last w) c.overwrite.ensures.exact ∙ written_now (thinned kb e.map.now (kb e.key) e.last) e.last e.key c.args.value w in
    let set = over_written kb e.map.now new e.key c.args.value e.last c.overwrite.ensures.content c.numbers_law.ensures.content c.numbers_law.ensures.distinct c.overwrite.ensures.over c.overwrite.ensures.now in
    ((refl, list), record { writes_back = tt; value = is; written = λ w. subst (λ l. IsOverSet e w l) (list w) (set w) })
