use Rattle.line_program.proofs.Parsing.{words_at, one_word}
use Rattle.line_program.proofs.command.split_word.Goals as goal

pub returns-in-Some : goal.returns-in-Some
returns-in-Some c = rw (c.front.ensures, c.rest_after.ensures) (words_at c.args.text.now c.in-Some.at c.in-Some.ensures.value)

pub returns-in-None : goal.returns-in-None
returns-in-None c = one_word c.args.text.now c.in-None.ensures.value
