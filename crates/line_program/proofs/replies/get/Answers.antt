use Rattle.std.proofs.Common.{◌∙◌}
use Rattle.blart_map.specs.Content.{pairs}
use Rattle.line_program.proofs.Replying.{gets}
use Rattle.line_program.proofs.replies.get.Goals as goal

pub returns-in-Some : goal.returns-in-Some
returns-in-Some c = λ key is.
    gets (pairs c.args.map.now) key c.in-Some.key.items _ c.copied.result (c.in-Some.ensures key is) (c.copied.ensures ∙ c.get.ensures.value) c.value_line.ensures
