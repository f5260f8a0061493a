use Rattle.std.proofs.Common.{refl, ◌∙◌, subst}
use Rattle.art_edits.specs.Places.{IsPlaced}
use Rattle.blart_map.proofs.map.TreeMap.place_new_with_key.Goals as goal

pub returns-in-Ok-clause-placed : goal.returns-in-Ok-clause-placed
returns-in-Ok-clause-placed g c = (c.default-value.result, (_, c.default-value.ensures, refl), subst (λ S. IsPlaced g.K.AsBytes.bytes S c.args.key c.default-value.result c.place_ready.result c.place_ready.new.tree.pairs) (c.in-Ok.ensures.pairs ∙ c.self.view_is) c.place_ready.ensures.placed)
