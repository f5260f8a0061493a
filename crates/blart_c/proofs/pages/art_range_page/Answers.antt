use Rattle.std.proofs.Common.{rules, ◌≡◌, ◌∙◌, ap, subst}
use Rattle.blart_keys.specs.Bounds.{bound_bytes}
use Rattle.blart_keys.specs.Content.{between}
use Rattle.blart_keys.specs.KeyBytes.{slice_bytes, vec_bytes}
use Rattle.blart_keys.specs.Steps.{bytes}
use Rattle.blart_map.specs.Content.{pairs}
use Rattle.blart_c.specs.Held.{held}
use Rattle.blart_c.specs.Paged.{IsPage, end_at, start_at}
use Rattle.blart_c.proofs.pages.art_range_page.Goals as goal

pub returns-clause-page : goal.returns-clause-page
returns-clause-page c =
    let start : bound_bytes slice_bytes c.start_bound-start.result ≡ start_at c.args.skip c.args.from.now = search rules in
    let end : bound_bytes slice_bytes c.end_bound-end.result ≡ end_at c.args.with_to c.args.to.now = search rules in
    subst (λ S. IsPage S c.page_between.result c.args.keys.now c.page_between.new.keys c.args.ends.now c.page_between.new.ends c.args.values.now c.page_between.new.values c.page_between.new.needed)
    (ap (λ t. between (bytes vec_bytes) (pairs t.map) (bound_bytes slice_bytes c.start_bound-start.result) (bound_bytes slice_bytes c.end_bound-end.result)) c.tree.ensures.value
    ∙ (ap (λ lo. between (bytes vec_bytes) (held c.args.map.now) lo (bound_bytes slice_bytes c.end_bound-end.result)) start
    ∙ ap (λ hi. between (bytes vec_bytes) (held c.args.map.now) (start_at c.args.skip c.args.from.now) hi) end)) c.page_between.ensures
