use Rattle.blart_keys.specs.Steps.{bytes}
use Rattle.blart_keys.specs.Stored.{overlaps}
use Rattle.blart_keys.proofs.ContentLemmas.{put_unique}
use Rattle.blart_keys.proofs.PutLemmas.{put_exists}
use Rattle.blart_map.specs.Content.{pairs}
use Rattle.blart_map.proofs.map.TreeMap.put_law.Goals as goal

pub returns : goal.returns
unfolding overlaps
returns g c = λ pair free.
    let kb = bytes g.K.AsBytes.bytes in
    let S = pairs c.args.self.now in
    let put = put_exists kb S pair c.law.ensures.content free in
    (put.0, put.1, λ T other. put_unique kb S T put.0 pair other put.1)
