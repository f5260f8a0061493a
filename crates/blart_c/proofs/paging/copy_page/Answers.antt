use Rattle.std.proofs.Common.{rules, slice_set, ◌+◌, ◌≡◌, ◌∷◌, ◌∙◌, inl, inr, [], sym, subst, ap, length}
use Rattle.std.proofs.lemmas.List.{map-append}
use Rattle.blart_c.specs.Paged.{IsPage}
use Rattle.blart_c.proofs.PageSteps.{HasCopied, copies_one, page_done, page_full}
use Rattle.blart_c.proofs.paging.copy_page.Goals as goal
use Rattle.blart_c.proofs.paging.copy_page.Goals.{then-not-has_room-via-then-not-has_room, then-not-has_room-via-else-not-has_room+then-not-append}

pub returns-then-not-has_room : goal.returns-then-not-has_room
returns-then-not-has_room c =
    let len : length c.as_slice-bytes.result.now ≡ length c.in-Some.key.now.items = ap length c.as_slice-bytes.ensures.value in
    let next : c.loop-key.key-iterator ≡ (c.in-Some.key.now, c.in-Some.value.now) ∷ c.next.new.self = search rules in
    let full = page_full _ _ _ _ _ _ _ _ _ _ _ c.loop-key.invariant (c.in-Some.key.now, c.in-Some.value.now) c.next.new.self c.then-not-has_room.keys (length c.as_slice-bytes.result.now) next in
    subst (λ S. IsPage S c.loop-key.count c.args.keys.now c.then-not-has_room.keys c.args.ends.now c.loop-key.ends c.args.values.now c.loop-key.values (length c.as_slice-bytes.result.now)) c.into_iter-key-iterator.ensures.into_iter_gives
    (elim c.then-not-has_room.branch [
      | then-not-has_room-via-then-not-has_room w ↦ full w.keys-is len (elim (w.if-not-has_room.ensures.no (search rules)) [ inl e ↦ inl e | inr e ↦ inr (inl e) ])
      | then-not-has_room-via-else-not-has_room+then-not-append w ↦ full (w.keys-is ∙ w.if-not-append.ensures.kept (search rules)) len (inr (inr (w.if-not-append.ensures.full (search rules))))
    ])

pub loop-key-preserved : goal.loop-key-preserved
loop-key-preserved c =
    let len : length c.as_slice-bytes.result.now ≡ length c.in-Some.key.now.items = ap length c.as_slice-bytes.ensures.value in
    let next : c.loop-key.key-iterator ≡ (c.in-Some.key.now, c.in-Some.value.now) ∷ c.next.new.self = search rules in
    subst (λ done. HasCopied c.into_iter-key-iterator.result c.next.new.self done (c.loop-key.count + 1) (c.loop-key.used + length c.as_slice-bytes.result.now) c.args.keys.now c.append.new.keys c.args.ends.now (slice_set c.loop-key.ends c.loop-key.count (c.loop-key.used + length c.as_slice-bytes.result.now)) c.args.values.now (slice_set c.loop-key.values c.loop-key.count c.in-Some.value.now)) (sym (map-append (λ p. (p.0.now, p.1.now)) c.loop-key.yielded ((c.in-Some.key, c.in-Some.value) ∷ [])))
    (copies_one _ _ _ _ _ _ _ _ _ _ _ c.loop-key.invariant (c.in-Some.key.now, c.in-Some.value.now) c.next.new.self c.as_slice-bytes.result.now c.append.new.keys (length c.as_slice-bytes.result.now) next
    c.as_slice-bytes.ensures.value len (c.append.ensures.fits (search rules)) (search rules) (search rules) (c.append.ensures.put (search rules)))

pub returns : goal.returns
returns c =
    let none : c.loop-key.key-iterator ≡ [] = search rules in
    subst (λ S. IsPage S c.loop-key.count c.args.keys.now c.loop-key.keys c.args.ends.now c.loop-key.ends c.args.values.now c.loop-key.values 0) c.into_iter-key-iterator.ensures.into_iter_gives
    (page_done _ _ _ _ _ _ _ _ _ _ _ c.loop-key.invariant none)
