use Rattle.std.proofs.Common.{None}
use Rattle.blart_map.proofs.Beneath.{to_test}
use Rattle.blart_set.proofs.set.TreeSet.extract_if.Goals as goal

pub invariant_of-result : goal.invariant_of-result
invariant_of-result g c = record { fits = to_test c.cursor-cursor.result None c.args.self.now c.cursor-cursor.ensures.fits tt }
