use Rattle.blart_map.specs.Content.{pairs}
use Rattle.line_program.proofs.Replying.{inserts}
use Rattle.line_program.proofs.replies.insert.Goals as goal

pub returns-in-Some : goal.returns-in-Some
returns-in-Some c = λ key is.
    inserts (pairs c.args.map.now) (pairs c.try_insert.new.self) key _ c.in-Some.key c.args.value c.try_insert.result (c.in-Some.ensures key is) c.try_insert.ensures.put c.inserted_line.ensures
