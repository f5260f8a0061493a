use Rattle.std.proofs.Common.{ap, subst}
use Rattle.std.specs.declared.ops.Bound.TheVariants.{Unbounded}
use Rattle.blart_keys.specs.Content.{between, under}
use Rattle.blart_keys.specs.KeyBytes.{vec_bytes}
use Rattle.blart_keys.specs.Steps.{bytes}
use Rattle.blart_map.specs.Content.{pairs}
use Rattle.blart_c.specs.Paged.{IsPage, start_at}
use Rattle.blart_c.proofs.pages.art_prefix_page.Goals as goal

pub returns-clause-page : goal.returns-clause-page
returns-clause-page c =
    subst (λ S. IsPage S c.prefix_page.result c.args.keys.now c.prefix_page.new.keys c.args.ends.now c.prefix_page.new.ends c.args.values.now c.prefix_page.new.values c.prefix_page.new.needed)
    (ap (λ t. under (bytes vec_bytes) (between (bytes vec_bytes) (pairs t.map) (start_at c.args.skip c.args.from.now) Unbounded) c.args.prefix.now) c.tree.ensures.value) c.prefix_page.ensures
