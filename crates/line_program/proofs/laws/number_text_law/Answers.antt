use Rattle.std.proofs.Common.{arith}
use Rattle.line_program.proofs.RoundTrips.{number_of-decimal}
use Rattle.line_program.proofs.laws.number_text_law.Goals as goal

pub returns : goal.returns
returns c = number_of-decimal c.args.number (omega arith)
