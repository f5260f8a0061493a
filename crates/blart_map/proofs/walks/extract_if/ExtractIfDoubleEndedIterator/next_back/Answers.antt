use Rattle.std.proofs.Common.{refl, lit<, None, length}
use Rattle.art_walk.proofs.Lending.{from_test, to_test}
use Rattle.blart_map.specs.ExtractIf.{extract_left, CanExtractBack}
use Rattle.blart_map.proofs.Taken.Progress.{goes_on}
use Rattle.blart_map.proofs.walks.extract_if.ExtractIfDoubleEndedIterator.next_back.Goals as goal

pub extract_last-requires : goal.extract_last-requires
extract_last-requires g c = let s = c.args.self.now in rw c.map.view_is (lit< tt, (from_test s.cursor None s.map.now s.fits, c.requires))

pub invariant_of-self : goal.invariant_of-self
invariant_of-self g c = record { fits = to_test c.extract_last.new.cursor None c.extract_last.new.tree.pairs c.extract_last.ensures.fits tt }

pub returns-clause-steps : goal.returns-clause-steps
returns-clause-steps g c = (refl, rw (← c.map.view_is) c.extract_last.ensures.extracts)

pub returns-clause-goes : goal.returns-clause-goes
returns-clause-goes g c = goes_on (CanExtractBack g.F.FnMut) (λ s. length (extract_left s)) _ _ _ c.extract_last.ensures.callable (rw (← c.map.view_is) c.extract_last.ensures.fewer)
