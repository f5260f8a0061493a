use Rattle.std.proofs.Common.{lit<, ap, sym, ◌∙◌}
use Rattle.art_walk.specs.Lent.{walk_fits, numbers}
use Rattle.art_walk.proofs.Lending.{has_lent, taken_fits, taken_left}
use Rattle.blart_map.proofs.walks.take_walk.TakeWalk.take.Goals as goal

pub take_leaf-requires : goal.take_leaf-requires
take_leaf-requires g c = let s = c.args.self.now in (lit< tt, has_lent s.cursor s.lent s.map.now s.fits c.unwrap-id.result (sym c.take.ensures.value ∙ c.unwrap-id.ensures))

pub invariant_of-self : goal.invariant_of-self
invariant_of-self g c =
    let s = c.args.self.now in
    record { fits = ap (λ o. walk_fits s.cursor o (numbers c.take_leaf.new.self)) c.take.ensures.after ∙ taken_fits s.map.now _ c.numbers_law.ensures.distinct s.cursor s.lent s.fits c.unwrap-id.result (sym c.take.ensures.value ∙ c.unwrap-id.ensures) c.take_leaf.ensures.rest }

pub returns-clause-same_left : goal.returns-clause-same_left
returns-clause-same_left g c =
    let s = c.args.self.now in
    taken_left s.map.now _ c.numbers_law.ensures.distinct s.cursor s.lent s.fits c.unwrap-id.result (sym c.take.ensures.value ∙ c.unwrap-id.ensures) c.take_leaf.ensures.rest
