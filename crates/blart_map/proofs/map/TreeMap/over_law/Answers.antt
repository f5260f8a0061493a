use Rattle.blart_keys.specs.Steps.{bytes}
use Rattle.blart_keys.proofs.ContentLemmas.{over_unique}
use Rattle.blart_keys.proofs.PutLemmas.{over_exists}
use Rattle.blart_map.specs.Content.{pairs}
use Rattle.blart_map.proofs.map.TreeMap.over_law.Goals as goal

pub returns : goal.returns
returns g c = λ pair.
    let kb = bytes g.K.AsBytes.bytes in
    let S = pairs c.args.self.now in
    let over = over_exists kb S pair c.law.ensures.content in
    (over.0, over.1, λ T other. over_unique kb S T over.0 pair other over.1)
