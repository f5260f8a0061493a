use Rattle.std.proofs.Common.{refl, arith, sym, inr, codes, ◌∙◌, ◌∷◌, [], append-nil}
use Rattle.blart_map.specs.Content.{pairs}
use Rattle.line_program.specs.Results.{listing}
use Rattle.line_program.specs.Content.{by_bytes}
use Rattle.line_program.proofs.Replying.{lists_under}
use Rattle.line_program.proofs.Listing.{shown_all}
use Rattle.line_program.proofs.replies.write_prefix.Goals as goal

pub write_listing-requires : goal.write_listing-requires
write_listing-requires g c κs = ((refl, tt), (c.requires, (tt, (tt, omega (arith, c.prefix.ensures.fits)))))

pub returns-in-Some : goal.returns-in-Some
returns-in-Some g c = λ key is. (
  listing (by_bytes c.prefix.result),
  lists_under (pairs c.args.map.now) c.prefix.result key c.deref.result.now (c.in-Some.ensures key is ∙ sym c.deref.ensures.value) c.prefix.ensures.value,
  c.write_listing.ensures c.prefix.result (shown_all c.prefix.result),
)

pub returns-in-None : goal.returns-in-None
returns-in-None g c = λ key is. (codes "refused memory" ∷ [], inr (c.in-None.ensures key is, refl, refl), rw append-nil c.write_line.ensures)
