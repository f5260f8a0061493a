use Rattle.std.proofs.Common.{◌≡◌, suc, ◌+◌, ◌≤◌, List, [], ◌∷◌, ◌++◌, arith, length, refl, ap, sym, ◌∙◌, subst, append_assoc, append-nil, vec_len, vec_capacity}
use Rattle.std.proofs.lemmas.List.{nil_from_length}
use Rattle.std.specs.Vec.Iter.{into_iter_items, into_iter_len}
use Rattle.blart_keys.specs.Steps.{Run}
use Rattle.blart_keys.proofs.StepLemmas.{run_more}
use Rattle.blart_map.specs.Content.{pairs}
use Rattle.blart_map.proofs.calls.drive.Goals as goal

pub calls-init : goal.calls-init
calls-init g c =
    let gives = c.into_iter-call-iterator.ensures.into_iter_gives in
    let none = c.in_ok-replies.ensures.items in
    let len : vec_len c.in_ok-replies.replies ≡ 0 = c.in_ok-replies.ensures.len in
    let capacity : c.len.result ≤ vec_capacity c.in_ok-replies.replies = c.in_ok-replies.ensures.capacity in
    let all : into_iter_len c.into_iter-call-iterator.result ≡ c.len.result = gives.1 ∙ sym c.len.ensures in
    record {
      done = [];
      whole = sym gives.0;
      run = rw none refl;
      counted = gives.1 ∙ c.args.calls.ok.0 ∙ sym (ap (λ (l : List _). length l) gives.0);
      room = omega arith;
    }

pub calls-preserved : goal.calls-preserved
calls-preserved g c =
    let i = c.calls.invariant in
    let kb = g.K.AsBytes.bytes in
    let steps = c.in-Some.ensures.steps in
    let call = c.in-Some.call in
    let rest = c.next.new.self in
    let e : length (into_iter_items c.calls.call-iterator) ≡ suc (length (into_iter_items rest)) = ap (λ (l : List _). length l) steps.0 in
    let n : into_iter_len rest + 1 ≡ into_iter_len c.calls.call-iterator = steps.1 in
    let m : into_iter_len c.calls.call-iterator ≡ length (into_iter_items c.calls.call-iterator) = i.counted in
    let room : vec_len c.calls.replies + into_iter_len c.calls.call-iterator ≤ vec_capacity c.calls.replies = i.room in
    let len : vec_len c.push_reserved.new.self ≡ vec_len c.calls.replies + 1 = c.push_reserved.ensures.len in
    let capacity : vec_capacity c.push_reserved.new.self ≡ vec_capacity c.calls.replies = c.push_reserved.ensures.capacity in
    record {
      done = i.done ++ call ∷ [];
      whole = i.whole ∙ ap (λ l. i.done ++ l) steps.0 ∙ sym (append_assoc i.done (call ∷ []) (into_iter_items rest));
      run = rw c.push_reserved.ensures.items (run_more kb (pairs c.args.map.now) i.done c.calls.replies.items (pairs c.calls.map) (pairs c.answer-reply.new.map) call c.answer-reply.result i.run c.answer-reply.ensures);
      counted = omega arith;
      room = omega arith;
    }

pub returns-clause-replies : goal.returns-clause-replies
returns-clause-replies g c =
    let i = c.calls.invariant in
    let kb = g.K.AsBytes.bytes in
    let none = nil_from_length (into_iter_items c.calls.call-iterator) (sym i.counted ∙ c.in-None.ensures.steps.0) in
    let whole = i.whole ∙ ap (λ l. i.done ++ l) none ∙ append-nil i.done in
    subst (λ calls. Run kb (pairs c.args.map.now) calls c.calls.replies.items (pairs c.calls.map)) (sym whole) i.run
