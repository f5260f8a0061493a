use Rattle.std.proofs.Common.{List, length, lit<, ap, arith}
use Rattle.blart_keys.specs.Steps.{bytes}
use Rattle.blart_map.specs.Content.{pairs}
use Rattle.art_edits.proofs.Moved.Parting.{part_lengths}
use Rattle.blart_map.proofs.map.TreeMap.count_from.Goals as goal

pub count_after-requires : goal.count_after-requires
unfolding pairs
count_after-requires g c =
    let kb = g.K.AsBytes.bytes in
    let low = ap (λ (l : List _). length l) c.range-low.ensures.value in
    let high = ap (λ (l : List _). length l) c.range-high.ensures.value in
    let whole = part_lengths (bytes kb) (g.Q.AsBytes.bytes c.args.query.now) (pairs c.args.self.now) c.law.ensures.content in
    (lit< tt, omega (arith, low, high, whole, c.len.ensures))
