use Rattle.std.proofs.Common.{◌≡◌, ◌≤◌, ◌+◌, ◌++◌, ◌∷◌, [], ◌∙◌, Ok, Err, ap, sym, subst, length, length-append, map, drop, arith}
use Rattle.std.proofs.iter.Next.{Yields-more}
use Rattle.std.proofs.lemmas.List.{length-map}
use Rattle.std.proofs.lemmas.Result.{err_from_is_err_and}
use Rattle.std.specs.Iterator.{AlwaysYields, size}
use Rattle.std.specs.List.{flat_map}
use Rattle.std.specs.Prelude.{codes, decimal}
use Rattle.line_program.specs.Results.{listing, pair_text}
use Rattle.line_program.specs.Content.{pair_of, by_bytes}
use Rattle.line_program.specs.Lines.{ended}
use Rattle.line_program.proofs.Sending.{IsSent-part, IsSent-then}
use Rattle.line_program.proofs.Listing.{Lent, seen, given_first, given_all, lines_text, lines_text-given, listing_text, listing_front}
use Rattle.line_program.proofs.replies.write_listing.Goals as goal

pub loop-key-preserved : goal.loop-key-preserved
loop-key-preserved g c =
    let i = c.loop-key in
    let item : Lent = (c.in-Some.key, c.in-Some.value) in
    let text = ended (pair_text (pair_of (seen item))) in
    let count : i.count + 1 ≡ length (i.yielded ++ item ∷ []) = omega (arith, length-append i.yielded (item ∷ []), i.invariant.count) in
    let fits : i.count + 1 + size (g.I.Iterator.remaining c.next.new.self) ≤ size (g.I.Iterator.remaining c.into_iter-key-iterator.result) = search arith in
    let h = IsSent-then _ _ _ _ c.args.outbox.now (lines_text (by_bytes (map seen i.yielded))) i.outbox c.write_pair.new.outbox (Ok tt) text i.invariant.sent (rw (← c.deref.ensures.value) c.in_ok-write_pair.ensures) in
    record {
      count = count;
      fits = fits;
      sent = rw (lines_text-given i.yielded item) h.0;
      mark = h.1;
    }

pub returns-in_err-write_pair : goal.returns-in_err-write_pair
returns-in_err-write_pair g c = λ pairs all.
    let p = err_from_is_err_and c.from_residual.result c.from_residual.ensures.1 in
    let i = c.loop-key in
    let error = c.in_err-write_pair.field-0.0 in
    let rest = c.write_pair.new.outbox in
    let item : Lent = (c.in-Some.key, c.in-Some.value) in
    let items = i.yielded ++ item ∷ [] in
    let text = ended (pair_text (pair_of (seen item))) in
    let h = IsSent-then _ _ _ _ c.args.outbox.now (lines_text (by_bytes (map seen i.yielded))) i.outbox rest (Err error) text i.invariant.sent (rw c.deref.ensures.value at c.in_err-write_pair.ensures) in
    let more = rw (← (lines_text-given i.yielded item)) at h in
    let yields = Yields-more g.I.Iterator.next_gives c.into_iter-key-iterator.result i.yielded i.key-iterator item c.next.new.self i.yielded_by c.in-Some.ensures.steps in
    let whole = listing_front pairs (map seen items) (drop (length items) pairs) (given_first g.I.Iterator.next_gives c.into_iter-key-iterator.result c.next.new.self items pairs (subst (λ w. AlwaysYields g.I.Iterator.next_gives seen w pairs) (sym c.into_iter-key-iterator.ensures.into_iter_gives) all) yields) in
    rw (p.1, p.2) (IsSent-part _ _ _ error c.args.outbox.now (lines_text (by_bytes (map seen items))) _ (flat_map ended (listing (by_bytes pairs))) rest rest whole more)

pub returns : goal.returns
returns g c = λ pairs all.
    let i = c.loop-key in
    let given = given_all g.I.Iterator.next_gives c.into_iter-key-iterator.result i.key-iterator c.next.new.self i.yielded pairs (subst (λ w. AlwaysYields g.I.Iterator.next_gives seen w pairs) (sym c.into_iter-key-iterator.ensures.into_iter_gives) all) i.yielded_by c.in-None.ensures.steps in
    let count = i.invariant.count ∙ sym (length-map i.yielded seen) ∙ ap length given ∙ sym (length-map pairs pair_of) in
    let last = rw count at c.write_line.ensures in
    rw (listing_text (by_bytes pairs)) (IsSent-then _ _ _ _ c.args.outbox.now (lines_text (by_bytes pairs)) i.outbox c.write_line.new.outbox c.write_line.result
    (ended (codes "end " ++ decimal (length (by_bytes pairs)))) (rw given at i.invariant.sent) last)
