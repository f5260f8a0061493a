use Rattle.std.proofs.Common.{arith}
use Rattle.line_program.proofs.RoundTrips.{key_of-key_text}
use Rattle.line_program.proofs.laws.key_text_law.Goals as goal

pub returns : goal.returns
returns c = key_of-key_text c.args.key.now (λ i. omega (arith, c.type_inv.key i))
