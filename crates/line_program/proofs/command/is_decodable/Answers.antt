use Rattle.std.proofs.Common.{◌∙◌, sym}
use Rattle.line_program.proofs.Parsing.{decodes_if_digits}
use Rattle.line_program.proofs.command.is_decodable.Goals as goal

pub returns-then-word-eq0 : goal.returns-then-word-eq0
returns-then-word-eq0 c = c.is_all_hex.ensures ∙ sym (decodes_if_digits c.args.word.now c.if-word-eq0.true)
