use Rattle.std.proofs.Common.{◌≡◌, ◌∙◌, ap, sym, List, ℕ, Bool, nat_eq}
use Rattle.std.specs.List.{starts_with}
use Rattle.std.specs.Range.Bound.{bound_map}
use Rattle.std.specs.declared.ops.Bound.{Bound}
use Rattle.std.specs.declared.ops.Bound.TheVariants.{Included, Excluded, Unbounded}
use denote.Ref.{Bor}
use Rattle.blart_keys.specs.Bounds.{bound_bytes, slice_bound}
use Rattle.blart_keys.specs.Bytes.{begins}
use Rattle.blart_keys.specs.Content.{between}
use Rattle.blart_keys.specs.KeyBytes.{vec_bytes, slice_bytes}
use Rattle.blart_keys.specs.Stored.{bytes}
use Rattle.blart_keys.proofs.ByteLemmas.{begins_starts_with}
use Rattle.blart_map.specs.Content.{pairs}
use Rattle.prefix_router.proofs.BestLemmas.{first_under, first_not_under, none_under}
use Rattle.prefix_router.proofs.tables.first_in.Goals as goal

-- a bound that refers to the bytes of another is at the same bytes
same_bound : (b : Bound (Bor (Bor (List ℕ)))) (low : Bound (Bor (List ℕ))) → bound_map (λ x. x.now) b ≡ low → bound_bytes slice_bytes b ≡ slice_bound low
same_bound (Included x) low e = ap slice_bound e
same_bound (Excluded x) low e = ap slice_bound e
same_bound Unbounded low e = ap slice_bound e

-- what `starts_with` returns
told : {b : Bool} (front own path : List ℕ) {r : Bool} → own ≡ path → r ≡ starts_with nat_eq own front → r ≡ b → begins front path ≡ b
told front own path o s t = sym (begins_starts_with front path) ∙ ap (λ p. starts_with nat_eq p front) (sym o) ∙ sym s ∙ t

pub returns-then-starts_with : goal.returns-then-starts_with
returns-then-starts_with g c =
    let whole = ap (λ b. between (bytes vec_bytes) (pairs c.args.table.now) b Unbounded) (same_bound c.as_ref.result c.args.low c.as_ref.ensures) in
    first_under vec_bytes (pairs c.args.table.now) c.law.ensures.content c.args.front.now (slice_bound c.args.low) c.requires _ _ (sym whole ∙ sym c.range.ensures.value ∙ c.in-Some.ensures.steps)
    (told c.args.front.now c.deref.result.now c.in-Some.pair.0.now.items c.deref.ensures.value c.starts_with.ensures.value c.if-starts_with.true)

pub returns-else-starts_with : goal.returns-else-starts_with
returns-else-starts_with g c =
    let whole = ap (λ b. between (bytes vec_bytes) (pairs c.args.table.now) b Unbounded) (same_bound c.as_ref.result c.args.low c.as_ref.ensures) in
    first_not_under vec_bytes (pairs c.args.table.now) c.law.ensures.content c.args.front.now (slice_bound c.args.low) c.requires _ _ (sym whole ∙ sym c.range.ensures.value ∙ c.in-Some.ensures.steps)
    (told c.args.front.now c.deref.result.now c.in-Some.pair.0.now.items c.deref.ensures.value c.starts_with.ensures.value c.if-starts_with.false)

pub returns-in-None : goal.returns-in-None
returns-in-None g c =
    let whole = ap (λ b. between (bytes vec_bytes) (pairs c.args.table.now) b Unbounded) (same_bound c.as_ref.result c.args.low c.as_ref.ensures) in
    none_under vec_bytes (pairs c.args.table.now) c.law.ensures.content c.args.front.now (slice_bound c.args.low) c.requires (sym whole ∙ sym c.range.ensures.value ∙ c.in-None.ensures.steps.0)
