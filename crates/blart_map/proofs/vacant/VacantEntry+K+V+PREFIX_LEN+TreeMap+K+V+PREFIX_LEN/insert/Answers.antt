use Rattle.std.proofs.Common.{refl, sym, ap, ◌∙◌, ◌≡◌, Some, option_map}
use Rattle.blart_map.specs.Content.{pairs}
use Rattle.art_edits.proofs.Placed.Setting.{placed_set}
use Rattle.blart_map.proofs.vacant.VacantEntry+K+V+PREFIX_LEN+TreeMap+K+V+PREFIX_LEN.insert.Goals as goal

pub returns : goal.returns
unfolding pairs
returns g c =
    let kb = g.K.AsBytes.bytes in
    let set = placed_set kb c.args.self.map.now c.args.self.map.now c.place_new.new.self refl c.in_ok-id.ensures.placed.content c.in_ok-id.id c.args.self.key c.args.value c.args.self.absent c.in_ok-id.ensures.placed.put c.in_ok-id.ensures.placed.whole c.in_ok-id.ensures.placed.distinct c.in_ok-id.ensures.placed.now in
    let seen : Some c.args.value ≡ Some c.value_mut.result.now = sym (ap (option_map (λ p. p.1)) c.in_ok-id.ensures.placed.now) ∙ c.value_mut.ensures.value in
    let is : c.value_mut.result.now ≡ c.args.value = cc in
    ((refl, (λ w o. set w), tt), record { writes_back = tt; value = is })
