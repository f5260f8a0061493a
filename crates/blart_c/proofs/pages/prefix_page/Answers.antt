use Rattle.std.proofs.Common.{rules, ◌≡◌, ◌∙◌, ◌++◌, ◌∷◌, [], sym, ap, subst}
use Rattle.std.specs.declared.ops.Bound.TheVariants.{Included}
use Rattle.blart_keys.specs.Bounds.{bound_bytes}
use Rattle.blart_keys.specs.Content.{between, under}
use Rattle.blart_keys.specs.KeyBytes.{slice_bytes, vec_bytes}
use Rattle.blart_keys.specs.Steps.{bytes}
use Rattle.blart_map.specs.Content.{pairs}
use Rattle.blart_c.specs.Paged.{IsPage, later, start_at}
use Rattle.blart_c.proofs.PageSteps.{empty_page}
use Rattle.blart_c.proofs.RangeLemmas.{below_prefix, nothing_below}
use Rattle.blart_c.proofs.pages.prefix_page.Goals as goal

pub returns-in_default : goal.returns-in_default
returns-in_default c =
    let none : c.prefix.result ≡ [] = c.in_default.ensures.steps.0 in
    empty_page _ _ _ _ (nothing_below (bytes vec_bytes) (pairs c.args.tree.now.map) (start_at c.args.skip c.args.from.now) c.args.prefix.now (sym c.prefix.ensures.value ∙ none))

pub returns : goal.returns
returns c =
    let S = pairs c.args.tree.now.map in
    let start : bound_bytes slice_bytes c.later_bound-start.result ≡ later c.args.skip c.args.from.now c.args.prefix.now = search rules in
    let is : under (bytes vec_bytes) S c.args.prefix.now ≡ c.next_back.new.self ++ (c.in-Some.last.now, c.in-Some.field-0-1.now) ∷ [] = sym c.prefix.ensures.value ∙ c.in-Some.ensures.steps in
    subst (λ S. IsPage S c.page_between.result c.args.keys.now c.page_between.new.keys c.args.ends.now c.page_between.new.ends c.args.values.now c.page_between.new.values c.page_between.new.needed)
    (ap (λ lo. between (bytes vec_bytes) S lo (Included c.as_slice-last.result.now)) start
    ∙ (ap (λ q. between (bytes vec_bytes) S (later c.args.skip c.args.from.now c.args.prefix.now) (Included q)) c.as_slice-last.ensures.value
    ∙ below_prefix (bytes vec_bytes) S c.law.ensures.content c.args.skip c.args.from.now c.args.prefix.now c.next_back.new.self (c.in-Some.last.now, c.in-Some.field-0-1.now) is))
    c.page_between.ensures
