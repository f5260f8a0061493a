use Rattle.blart_map.specs.Content.{pairs}
use Rattle.line_program.proofs.Replying.{removes}
use Rattle.line_program.proofs.replies.remove.Goals as goal

pub returns-in-Some : goal.returns-in-Some
returns-in-Some c = λ key is.
    removes (pairs c.args.map.now) (pairs c.remove.new.self) key c.in-Some.key.items _ c.remove.result (c.in-Some.ensures key is) c.remove.ensures.removed c.remove.ensures.rest c.value_line.ensures
