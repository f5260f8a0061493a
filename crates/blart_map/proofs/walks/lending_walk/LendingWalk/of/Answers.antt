use Rattle.blart_map.proofs.walks.lending_walk.LendingWalk.of.Goals as goal

pub invariant_of-result : goal.invariant_of-result
invariant_of-result g c = record { fits = c.requires }
