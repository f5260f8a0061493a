use Rattle.blart_map.specs.Content.{pairs}
use Rattle.line_program.proofs.Replying.{overwrites, overwrites_refused}
use Rattle.line_program.proofs.replies.overwrite.Goals as goal

pub returns-in-Ok : goal.returns-in-Ok
returns-in-Ok c = λ key is.
    overwrites (pairs c.args.map.now) (pairs c.prefix_insert.new.self) key c.in-Some.key c.args.value c.len.result (c.in-Some.ensures key is) c.in-Ok.ensures.put c.len.ensures

pub returns-in-Err : goal.returns-in-Err
returns-in-Err c = λ key is.
    overwrites_refused (pairs c.args.map.now) (pairs c.prefix_insert.new.self) key c.in-Some.key c.args.value (c.in-Some.ensures key is) c.in-Err.ensures.put.0 c.in-Err.ensures.put.1
