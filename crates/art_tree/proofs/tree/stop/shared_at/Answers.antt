use Rattle.std.proofs.Common.{◌≡◌, ◌+◌, ◌<◌, ◌≤◌, ℕ, List, length, drop, get_or, refl, subst, sym, ◌∙◌, arith}
use Rattle.std.proofs.lemmas.List.{take_rest}
use Rattle.blart_keys.specs.Bytes.{common}
use Rattle.art_tree.proofs.Ways.Stops.{way_within, kept_within, shared_differs, shared_whole}
use Rattle.art_tree.specs.Calls.Stops.{IsShared}
use Rattle.art_tree.proofs.BeginsLemmas.{common-in_left}
use Rattle.art_tree.proofs.tree.stop.shared_at.Goals as goal

pub slice_bounds-common_len-count : goal.slice_bounds-common_len-count
slice_bounds-common_len-count g c = way_within c.requires.way

pub slice_bounds-common_len-start : goal.slice_bounds-common_len-start
slice_bounds-common_len-start g c = way_within c.requires.way

pub overflow_add-len : goal.overflow_add-len
overflow_add-len g c =
    let q = c.args.query.now in
    let start = c.args.start in
    let x = c.args.node.now in
    let kept : c.prefix-kept.result.now ≡ x.prefix = c.prefix-kept.ensures.value in
    let count : c.common_len-count.result ≡ length (common x.prefix (drop start q)) = subst (λ (z : List ℕ). c.common_len-count.result ≡ length (common z (drop start q))) kept (subst (λ (z : List ℕ). c.common_len-count.result ≡ length (common c.prefix-kept.result.now z)) (take_rest q start) c.common_len-count.ensures) in
    let low = kept_within c.requires.way c.requires.is in
    omega (arith, common-in_left x.prefix (drop start q), low, c.depth-depth.ensures)

pub returns-then-count-kept-clause-shared : goal.returns-then-count-kept-clause-shared
returns-then-count-kept-clause-shared g c w =
    let q = c.args.query.now in
    let start = c.args.start in
    let x = c.args.node.now in
    let kept : c.prefix-kept.result.now ≡ x.prefix = c.prefix-kept.ensures.value in
    let count : c.common_len-count.result ≡ length (common x.prefix (drop start q)) = subst (λ (z : List ℕ). c.common_len-count.result ≡ length (common z (drop start q))) kept (subst (λ (z : List ℕ). c.common_len-count.result ≡ length (common c.prefix-kept.result.now z)) (take_rest q start) c.common_len-count.ensures) in
    let less : c.common_len-count.result < length x.prefix = subst (λ (z : List ℕ). c.common_len-count.result < length z) kept c.if-count-kept.true in
    subst (λ (z : List ℕ). IsShared (w.shape.front_of c.args.id) q (start + c.common_len-count.result) (get_or z c.common_len-count.result 0)) (sym kept)
    (shared_differs w c.requires.is count less refl)

pub returns-then-len-depth-clause-shared : goal.returns-then-len-depth-clause-shared
returns-then-len-depth-clause-shared g c w =
    let q = c.args.query.now in
    let start = c.args.start in
    let x = c.args.node.now in
    let kept : c.prefix-kept.result.now ≡ x.prefix = c.prefix-kept.ensures.value in
    let count : c.common_len-count.result ≡ length (common x.prefix (drop start q)) = subst (λ (z : List ℕ). c.common_len-count.result ≡ length (common z (drop start q))) kept (subst (λ (z : List ℕ). c.common_len-count.result ≡ length (common c.prefix-kept.result.now z)) (take_rest q start) c.common_len-count.ensures) in
    let over : length x.prefix ≤ c.common_len-count.result = subst (λ (z : List ℕ). length z ≤ c.common_len-count.result) kept c.if-count-kept.false in
    shared_whole w c.requires.is count over refl (c.if-len-depth.true ∙ c.depth-depth.ensures)
