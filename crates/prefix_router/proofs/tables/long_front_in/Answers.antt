use Rattle.std.proofs.Common.{arith}
use Rattle.blart_keys.specs.KeyBytes.{vec_bytes}
use Rattle.blart_map.specs.Content.{pairs}
use Rattle.prefix_router.specs.Best.{is_shorter}
use Rattle.prefix_router.proofs.BestLemmas.{best_long_front, no_long_front, no_front, shorter_ranks}
use Rattle.prefix_router.proofs.tables.long_front_in.Goals as goal

pub returns-then-least-len : goal.returns-then-least-len
returns-then-least-len g c = best_long_front vec_bytes (pairs c.args.table.now) c.law.ensures.content is_shorter shorter_ranks c.args.path.now c.args.least (c.in-Some.front.0.now, c.in-Some.front.1.now) c.in-Some.ensures.pair (omega arith)

pub returns-else-least-len : goal.returns-else-least-len
returns-else-least-len g c = no_long_front vec_bytes (pairs c.args.table.now) c.law.ensures.content is_shorter c.args.path.now c.args.least (c.in-Some.front.0.now, c.in-Some.front.1.now) c.in-Some.ensures.pair (omega arith)

pub returns-in-None : goal.returns-in-None
returns-in-None g c = no_front vec_bytes (pairs c.args.table.now) c.law.ensures.content is_shorter c.args.path.now c.args.least c.in-None.ensures.pair
