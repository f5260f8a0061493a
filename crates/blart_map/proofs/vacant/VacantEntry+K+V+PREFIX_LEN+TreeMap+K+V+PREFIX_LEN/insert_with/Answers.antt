use Rattle.std.proofs.Common.{refl, subst, sym, ap, ◌∙◌, ◌≡◌, Some, option_map}
use Rattle.blart_map.specs.Content.{pairs}
use Rattle.art_edits.proofs.Placed.Setting.{placed_set}
use Rattle.blart_map.proofs.vacant.VacantEntry+K+V+PREFIX_LEN+TreeMap+K+V+PREFIX_LEN.insert_with.Goals as goal

pub returns : goal.returns
unfolding pairs
returns g c =
    let kb = g.K.AsBytes.bytes in
    let placed = c.in_ok-id.ensures.placed in
    let w0 = placed.0 in
    let set = placed_set kb c.args.self.map.now c.args.self.map.now c.place_new_with.new.self refl placed.2.content c.in_ok-id.id c.args.self.key w0 c.args.self.absent placed.2.put placed.2.whole placed.2.distinct placed.2.now in
    let seen : Some w0 ≡ Some c.value_mut.result.now = sym (ap (option_map (λ p. p.1)) placed.2.now) ∙ c.value_mut.ensures.value in
    let is : c.value_mut.result.now ≡ w0 = cc in
    ((refl, (λ w o. set w), tt), record { writes_back = tt; value = subst (g.F.FnOnce.post c.args.default tt) (sym is) placed.1 })
