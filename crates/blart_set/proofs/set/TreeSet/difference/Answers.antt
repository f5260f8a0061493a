use Rattle.std.proofs.Common.{◌^◌, not}
use Rattle.blart_keys.specs.Content.{stores}
use Rattle.blart_set.specs.Elements.{elements}
use Rattle.blart_set.proofs.Laws.{filter_fits}
use Rattle.blart_set.proofs.set.TreeSet.difference.Goals as goal

pub returns-clause-fits : goal.returns-clause-fits
returns-clause-fits g c = let kb = g.K.AsBytes.bytes in filter_fits (λ x. not (stores kb c.beside.result.right (kb x))) c.beside.result.left (elements c.args.self.now) c.beside.ensures.left (2 ^ 64) c.law.ensures.fits
