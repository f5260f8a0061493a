use Rattle.std.proofs.Common.{◌≡◌, ◌∙◌, ap, length}
use Rattle.std.specs.Prelude.{option_map}
use Rattle.blart_keys.specs.Stored.{shown}
use Rattle.blart_map.specs.Content.{pairs}
use Rattle.blart_c.specs.Copied.{code_of, key_after, length_after, value_after}
use Rattle.blart_c.specs.Held.{below, held, last_of, plain}
use Rattle.blart_c.proofs.PageSteps.{last_shown}
use Rattle.blart_c.proofs.neighbours.art_prev.Goals as goal

pub returns-clause-code : goal.returns-clause-code
returns-clause-code c =
    let pair : option_map plain (shown c.next_back-prev.result) ≡ last_of (below (held c.args.map.now) c.args.before.now) =
    last_shown _ _ _ _ (c.range.ensures.value ∙ ap (λ t. below (pairs t.map) c.args.before.now) c.tree.ensures.value) c.next_back-prev.ensures.steps in
    c.copy_out.ensures.code ∙ ap (λ o. code_of o (length c.args.key.now)) pair

pub returns-clause-key : goal.returns-clause-key
returns-clause-key c =
    let pair : option_map plain (shown c.next_back-prev.result) ≡ last_of (below (held c.args.map.now) c.args.before.now) =
    last_shown _ _ _ _ (c.range.ensures.value ∙ ap (λ t. below (pairs t.map) c.args.before.now) c.tree.ensures.value) c.next_back-prev.ensures.steps in
    c.copy_out.ensures.key ∙ ap (λ o. key_after o c.args.key.now) pair

pub returns-clause-len : goal.returns-clause-len
returns-clause-len c =
    let pair : option_map plain (shown c.next_back-prev.result) ≡ last_of (below (held c.args.map.now) c.args.before.now) =
    last_shown _ _ _ _ (c.range.ensures.value ∙ ap (λ t. below (pairs t.map) c.args.before.now) c.tree.ensures.value) c.next_back-prev.ensures.steps in
    c.copy_out.ensures.len ∙ ap (λ o. length_after o c.args.len.now) pair

pub returns-clause-value : goal.returns-clause-value
returns-clause-value c =
    let pair : option_map plain (shown c.next_back-prev.result) ≡ last_of (below (held c.args.map.now) c.args.before.now) =
    last_shown _ _ _ _ (c.range.ensures.value ∙ ap (λ t. below (pairs t.map) c.args.before.now) c.tree.ensures.value) c.next_back-prev.ensures.steps in
    c.copy_out.ensures.value ∙ ap (λ o. value_after o (length c.args.key.now) c.args.value.now) pair
