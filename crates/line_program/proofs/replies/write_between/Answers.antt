use Rattle.std.proofs.Common.{refl, arith}
use Rattle.blart_map.specs.Content.{pairs}
use Rattle.line_program.proofs.Replying.{lists_between}
use Rattle.line_program.proofs.Listing.{shown_all}
use Rattle.line_program.proofs.replies.write_between.Goals as goal

pub write_listing-requires : goal.write_listing-requires
write_listing-requires g c κs = ((refl, tt), (c.requires, (tt, (tt, omega (arith, c.range-walk.ensures.fits)))))

pub returns : goal.returns
returns g c =
    let is = lists_between (pairs c.args.map.now) c.range-walk.result c.args.low.now.items c.args.high.now.items c.if-not-is_range.ensures c.range-walk.ensures.value in
    rw is (c.write_listing.ensures c.range-walk.result (shown_all c.range-walk.result))
