use Rattle.std.proofs.Common.{◌≡◌, ◌<◌, ◌≤◌, Some, sym, arith}
use Rattle.art_tree.specs.Calls.Building.{last_depth}
use Rattle.art_tree.proofs.Calls.Making.{last_depth-read}
use Rattle.art_tree.proofs.tree.build.start_above.Goals as goal

pub overflow_add-result : goal.overflow_add-result
overflow_add-result c =
    let e : last_depth c.args.loose.now ≡ Some c.in-Some.edge.now.depth = last_depth-read c.args.loose.now c.in-Some.edge.now (sym c.in-Some.ensures.value) in
    omega (arith, c.requires c.in-Some.edge.now.depth e)

pub returns-in-Some : goal.returns-in-Some
returns-in-Some c =
    let e : last_depth c.args.loose.now ≡ Some c.in-Some.edge.now.depth = last_depth-read c.args.loose.now c.in-Some.edge.now (sym c.in-Some.ensures.value) in
    let le : c.args.least ≤ c.in-Some.edge.now.depth = c.if-least-edge.true in
    rw e (omega arith)

pub returns-in_default : goal.returns-in_default
returns-in_default c =
    let e : last_depth c.args.loose.now ≡ Some c.in-Some.edge.now.depth = last_depth-read c.args.loose.now c.in-Some.edge.now (sym c.in-Some.ensures.value) in
    let lt : c.in-Some.edge.now.depth < c.args.least = c.if-least-edge.false in
    rw e (omega arith)
