use Rattle.std.proofs.Common.{refl, lit<, None, length}
use Rattle.art_walk.proofs.Lending.{from_test, to_test}
use Rattle.blart_map.specs.ExtractIf.{extract_left, CanExtract}
use Rattle.blart_map.proofs.Taken.Progress.{goes_on}
use Rattle.blart_map.proofs.walks.extract_if.ExtractIfIterator.next.Goals as goal

pub extract_first-requires : goal.extract_first-requires
extract_first-requires g c = let s = c.args.self.now in rw c.map.view_is (lit< tt, (from_test s.cursor None s.map.now s.fits, c.requires))

pub invariant_of-self : goal.invariant_of-self
invariant_of-self g c = record { fits = to_test c.extract_first.new.cursor None c.extract_first.new.tree.pairs c.extract_first.ensures.fits tt }

pub returns-clause-steps : goal.returns-clause-steps
returns-clause-steps g c = (refl, rw (← c.map.view_is) c.extract_first.ensures.extracts)

pub returns-clause-goes : goal.returns-clause-goes
returns-clause-goes g c = goes_on (CanExtract g.F.FnMut) (λ s. length (extract_left s)) _ _ _ c.extract_first.ensures.callable (rw (← c.map.view_is) c.extract_first.ensures.fewer)
