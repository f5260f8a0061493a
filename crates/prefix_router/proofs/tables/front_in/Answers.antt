use Rattle.blart_keys.specs.KeyBytes.{vec_bytes}
use Rattle.blart_keys.specs.Stored.{shown}
use Rattle.blart_map.specs.Content.{pairs}
use Rattle.prefix_router.specs.Best.{is_longer}
use Rattle.prefix_router.proofs.BestLemmas.{best_front, longer_ranks}
use Rattle.prefix_router.proofs.tables.front_in.Goals as goal

pub returns-clause-best : goal.returns-clause-best
returns-clause-best g c = best_front vec_bytes (pairs c.args.table.now) c.law.ensures.content is_longer longer_ranks c.args.path.now (shown c.prefix_get_key_value_counted.result) c.prefix_get_key_value_counted.ensures.pair
