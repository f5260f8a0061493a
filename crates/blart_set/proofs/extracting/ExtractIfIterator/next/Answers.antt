use Rattle.std.proofs.Common.{◌∷◌, length, sym, ap, arith, subst, ◌∙◌, lit<, None, refl, le_of_eq}
use Rattle.std.specs.Fn.{CalledAt}
use Rattle.blart_keys.specs.Content.{without}
use Rattle.blart_map.proofs.Beneath.{from_test, to_test}
use Rattle.blart_set.specs.Elements.{elements}
use Rattle.blart_set.proofs.Callable.{callable_first, callable_others}
use Rattle.blart_set.proofs.Extracted.{called_at, asks_none, asks_true, asks_false, elements_none, same_element, first_is}
use Rattle.blart_set.proofs.extracting.ExtractIfIterator.next.Goals as goal

pub step-requires : goal.step-requires
step-requires g c = let at = c.loop-id.self in (lit< tt, from_test at.cursor None at.set.now at.fits)

pub pred-requires : goal.pred-requires
pred-requires g c =
    let splits = first_is c.loop-id.self.set.now c.in-Some.id c.element.result.now c.element.ensures c.loop-id.self.cursor c.step.new.cursor c.in-Some.ensures.first in
    callable_first g.F.FnMut _ _ _ _ splits c.loop-id.invariant.0 c.element.result refl

pub invariant_of-self : goal.invariant_of-self
invariant_of-self g c = record { fits = to_test c.step.new.cursor None c.take_element.new.self (c.take_element.ensures.left c.step.new.cursor c.in-Some.ensures.fits c.in-Some.ensures.first.passed).0 tt }

pub invariant_of-self-else-pred : goal.invariant_of-self-else-pred
invariant_of-self-else-pred g c = record { fits = to_test c.step.new.cursor None c.loop-id.self.set.now c.in-Some.ensures.fits tt }

pub invariant_of-self-in_default : goal.invariant_of-self-in_default
invariant_of-self-in_default g c = record { fits = to_test c.step.new.cursor None c.loop-id.self.set.now c.step.ensures.fits tt }

pub returns-then-pred : goal.returns-then-pred
returns-then-pred g c =
    let at = c.loop-id.self in
    let stays = c.take_element.ensures.left c.step.new.cursor c.in-Some.ensures.fits c.in-Some.ensures.first.passed in
    let x = c.take_element.result in
    let same = same_element at.set.now c.in-Some.id c.element.result.now c.element.ensures x c.take_element.ensures.value in
    let called = subst (λ z. CalledAt g.F.FnMut at.pred z c.pred.result c.pred.new.self) same (called_at g.F.FnMut at.pred c.element.result c.pred.result c.pred.new.self c.pred.ensures) in
    let splits = first_is at.set.now c.in-Some.id x c.take_element.ensures.value at.cursor c.step.new.cursor c.in-Some.ensures.first ∙ ap (λ l. x ∷ elements l) (sym stays.1) in
    let can = callable_others g.F.FnMut at.pred x _ _ splits c.loop-id.invariant.0 c.pred.result c.pred.new.self called in
    record {
      steps = record {
        same_set = c.loop-id.invariant.1;
        asks = c.loop-id.invariant.4 _ _ _ (asks_true g.F.FnMut _ _ x at.pred c.pred.new.self c.pred.result splits called c.if-pred.true);
        less = c.take_element.ensures.removed ∙ ap (λ s. without g.K.AsBytes.bytes (elements s) (g.K.AsBytes.bytes x)) c.loop-id.invariant.2;
      };
      goes = record { on = λ finite. (can, finite, omega (arith, ap length splits, c.loop-id.invariant.3)); keeps = can; rests = λ _. tt };
    }

pub loop-id-smaller : goal.loop-id-smaller
loop-id-smaller g c = le_of_eq (sym (ap length (first_is c.loop-id.self.set.now c.in-Some.id c.element.result.now c.element.ensures c.loop-id.self.cursor c.step.new.cursor c.in-Some.ensures.first)))

pub loop-id-preserved : goal.loop-id-preserved
loop-id-preserved g c =
    let at = c.loop-id.self in
    let called = called_at g.F.FnMut at.pred c.element.result c.pred.result c.pred.new.self c.pred.ensures in
    let splits = first_is at.set.now c.in-Some.id c.element.result.now c.element.ensures at.cursor c.step.new.cursor c.in-Some.ensures.first in (
      callable_others g.F.FnMut at.pred _ _ _ splits c.loop-id.invariant.0 c.pred.result c.pred.new.self called,
      c.loop-id.invariant.1,
      c.loop-id.invariant.2,
      omega (arith, ap length splits, c.loop-id.invariant.3),
      λ r left f' a. c.loop-id.invariant.4 r left f' (asks_false g.F.FnMut _ _ _ at.pred c.pred.new.self c.pred.result splits called c.if-pred.false r left f' a),
    )

pub returns-clause-steps : goal.returns-clause-steps
returns-clause-steps g c =
    let at = c.loop-id.self in
    let none = c.in_default.ensures.passes in
    record {
      same_set = c.loop-id.invariant.1;
      asks = c.loop-id.invariant.4 _ _ _ (asks_none g.F.FnMut _ _ at.pred (elements_none _ none.0) (elements_none _ none.1));
      less = ap elements c.loop-id.invariant.2;
    }
