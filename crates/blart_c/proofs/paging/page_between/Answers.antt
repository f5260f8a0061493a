use Rattle.std.proofs.Common.{rules, ◌≡◌, false}
use Rattle.blart_keys.specs.Bounds.{bound_bytes, in_order}
use Rattle.blart_keys.specs.KeyBytes.{slice_bytes, vec_bytes}
use Rattle.blart_keys.specs.Steps.{bytes}
use Rattle.blart_map.specs.Content.{pairs}
use Rattle.blart_c.proofs.PageSteps.{empty_page}
use Rattle.blart_c.proofs.RangeLemmas.{nothing_between}
use Rattle.blart_c.proofs.paging.page_between.Goals as goal

pub returns-then-not-bounds_in_order : goal.returns-then-not-bounds_in_order
returns-then-not-bounds_in_order c =
    let out : in_order (bound_bytes slice_bytes c.args.start) (bound_bytes slice_bytes c.args.end) ≡ false = search rules in
    empty_page _ _ _ _ (nothing_between (bytes vec_bytes) (pairs c.args.tree.now.map) (bound_bytes slice_bytes c.args.start) (bound_bytes slice_bytes c.args.end) out)
