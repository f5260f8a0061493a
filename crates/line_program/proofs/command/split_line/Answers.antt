use Rattle.std.proofs.Common.{ap, length, arith}
use Rattle.line_program.proofs.Parsing.{some_word}
use Rattle.line_program.proofs.command.split_line.Goals as goal

pub returns-in-Some-rest-2 : goal.returns-in-Some-rest-2
returns-in-Some-rest-2 c =
    let more = some_word c.in-Some-rest-2.field-0.now in
    let last = ap length (rw c.in-Some-rest-2.is at c.split_word-3.ensures) in
    let second = ap length (rw c.in-Some-rest.is at c.split_word-2.ensures) in
    let first = ap length (rw c.in-Some.is at c.split_word.ensures) in
    omega (arith, first, second, last, more)
