use Rattle.std.proofs.Common.{sym, ◌∙◌}
use Rattle.blart_map.specs.Content.{pairs}
use Rattle.line_program.proofs.Replying.{removes_prefix}
use Rattle.line_program.proofs.replies.remove_prefix.Goals as goal

pub returns-in-Some : goal.returns-in-Some
returns-in-Some c = λ key is.
    removes_prefix (pairs c.args.map.now) (pairs c.remove_prefix.new.self) key c.deref.result.now c.remove_prefix.result (c.in-Some.ensures key is ∙ sym c.deref.ensures.value) c.remove_prefix.ensures.count c.remove_prefix.ensures.rest
