use Rattle.blart.specs.Words.{pairs}
use Rattle.caller_tests.proofs.parts.part_and_join.Goals as goal

pub returns : goal.returns
returns g c = c.in_default.ensures.joined (pairs c.args.map.now) c.law.ensures.content c.in_ok-rest.ensures.whole
