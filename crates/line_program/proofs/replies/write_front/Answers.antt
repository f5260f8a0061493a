use Rattle.std.proofs.Common.{refl, inr, codes}
use Rattle.blart_map.specs.Content.{pairs}
use Rattle.line_program.proofs.Replying.{finds}
use Rattle.line_program.proofs.replies.write_front.Goals as goal

pub returns-in-Some : goal.returns-in-Some
returns-in-Some g c = λ key is. (
  _,
  finds (pairs c.args.map.now) key c.in-Some.key.items _ _ (c.in-Some.ensures key is) c.prefix_get_key_value.ensures.value refl,
  c.write_found.ensures,
)

pub returns-in-None : goal.returns-in-None
returns-in-None g c = λ key is. (codes "refused memory", inr (c.in-None.ensures key is, refl, refl), c.write_line.ensures)
