use Rattle.std.proofs.Common.{◌≡◌, ◌<◌, Some, sym, arith}
use Rattle.art_tree.specs.Calls.Building.{last_depth}
use Rattle.art_tree.proofs.Calls.Making.{last_depth-read}
use Rattle.art_tree.proofs.tree.build.deepest.Goals as goal

pub returns-then-last-least-clause-none : goal.returns-then-last-least-clause-none
returns-then-last-least-clause-none c depth is =
    let e : last_depth c.args.loose.now ≡ Some c.in_ok-last.last.now.depth = last_depth-read c.args.loose.now c.in_ok-last.last.now (sym c.in_ok-last.ensures.value) in
    let s : c.in_ok-last.last.now.depth ≡ depth = cc in
    let lt : c.in_ok-last.last.now.depth < c.args.least = c.if-last-least.true in
    omega arith

pub returns-else-last-least-clause-some : goal.returns-else-last-least-clause-some
returns-else-last-least-clause-some c = (last_depth-read c.args.loose.now c.in_ok-last.last.now (sym c.in_ok-last.ensures.value), c.if-last-least.false)
