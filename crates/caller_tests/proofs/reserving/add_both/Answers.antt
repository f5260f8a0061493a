use Rattle.std.proofs.Common.{◌∙◌, ap, rules}
use Rattle.blart.specs.Words.{elements, held_elements}
use Rattle.caller_tests.proofs.reserving.add_both.Goals as goal

pub returns-clause-put : goal.returns-clause-put
returns-clause-put g c =
    let end = c.set-2-1.given.1 (search rules) ∙ c.drop-room.ensures in (
      held_elements c.insert.new.self,
      rw (← c.in_ok-room.ensures.unchanged) c.insert.ensures.put,
      (held_elements c.insert-2.new.self, c.insert-2.ensures.put, ap elements end),
    )
