use Rattle.std.proofs.Common.{subst, ap}
use Rattle.blart_keys.specs.Content.{IsContent}
use Rattle.blart_keys.specs.Steps.{bytes}
use Rattle.blart_keys.proofs.Mapped.{content_map}
use Rattle.art_tree.specs.Pairs.{pairs_of}
use Rattle.blart_map.specs.Content.{pairs}
use Rattle.blart_map.proofs.map.TreeMap.law.Goals as goal

pub returns-clause-content : goal.returns-clause-content
unfolding pairs
returns-clause-content g c =
    let kb = g.K.AsBytes.bytes in
    subst (IsContent (bytes kb)) (ap pairs_of c.self.view_is) (content_map (λ p. p.1) (bytes kb) c.self.inside.tree.pairs c.law.ensures.content)
