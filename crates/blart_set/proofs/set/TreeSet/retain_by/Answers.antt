use Rattle.std.proofs.Common.{◌∷◌, ◌∙◌, refl, sym, ap, subst, suc, length, true, le_of_eq}
use Rattle.blart_keys.specs.Content.{IsContent, without}
use Rattle.blart_keys.proofs.RankLemmas.{filter_all}
use Rattle.blart_keys.proofs.PutLemmas.{without_content}
use Rattle.blart_set.specs.Asking.{AsksElement, CallableOnEachElement}
use Rattle.blart_set.specs.Elements.{elements}
use Rattle.blart_set.proofs.Callable.{callable_first, callable_others}
use Rattle.blart_set.proofs.Extracted.{called_at, same_element, first_is, elements_none}
use Rattle.blart_set.proofs.Keeping.{retaining_start, retaining_end, retaining_kept, retaining_gone}
use Rattle.blart_set.proofs.set.TreeSet.retain_by.Goals as goal

pub elements-init : goal.elements-init
elements-init g c =
    let all = elements c.args.self.now in
    let left = c.cursor-cursor.ensures.left ∙ filter_all (λ x. true) all (λ x m. refl) in (
      subst (λ l. CallableOnEachElement g.F.FnMut c.args.f.now l) (sym left) c.requires,
      c.cursor-cursor.ensures.fits,
      c.law.ensures.content,
      retaining_start g.K.AsBytes.bytes (AsksElement g.F.FnMut) all c.args.f.now _ left,
    )

pub f-requires : goal.f-requires
f-requires g c =
    let splits = first_is c.elements.self c.in-Some.id c.element.result.now c.element.ensures c.elements.cursor c.step.new.cursor c.in-Some.ensures.first in
    callable_first g.F.FnMut c.elements.f _ _ _ splits c.elements.invariant.0 c.element.result refl

pub elements-smaller-then-f : goal.elements-smaller-then-f
elements-smaller-then-f g c = le_of_eq (sym (ap length c.in-Some.ensures.first.splits))

pub elements-preserved-then-f : goal.elements-preserved-then-f
elements-preserved-then-f g c =
    let x = c.element.result.now in
    let splits = first_is c.elements.self c.in-Some.id x c.element.ensures c.elements.cursor c.step.new.cursor c.in-Some.ensures.first in
    let asks : AsksElement g.F.FnMut c.elements.f x c.f.result x c.f.new.self = (called_at g.F.FnMut c.elements.f c.element.result c.f.result c.f.new.self c.f.ensures, refl) in (
      callable_others g.F.FnMut c.elements.f x _ _ splits c.elements.invariant.0 c.f.result c.f.new.self asks.0,
      c.in-Some.ensures.fits,
      c.elements.invariant.2,
      retaining_kept g.K.AsBytes.bytes (AsksElement g.F.FnMut) _ _ _ _ _ c.elements.f c.f.new.self x c.f.result asks splits c.elements.invariant.3 c.if-f.true,
    )

pub elements-smaller : goal.elements-smaller
elements-smaller g c =
    let first = c.in-Some.ensures.first in
    let stays = c.take_element-element.ensures.left c.step.new.cursor c.in-Some.ensures.fits first.passed in
    le_of_eq (ap suc (ap length stays.1) ∙ sym (ap length first.splits))

pub elements-preserved : goal.elements-preserved
elements-preserved g c =
    let kb = g.K.AsBytes.bytes in
    let ps = c.elements.self in
    let x = c.element.result.now in
    let stays = c.take_element-element.ensures.left c.step.new.cursor c.in-Some.ensures.fits c.in-Some.ensures.first.passed in
    let splits = first_is ps c.in-Some.id x c.element.ensures c.elements.cursor c.step.new.cursor c.in-Some.ensures.first ∙ ap (λ l. x ∷ elements l) (sym stays.1) in
    let asks : AsksElement g.F.FnMut c.elements.f x c.f.result x c.f.new.self = (called_at g.F.FnMut c.elements.f c.element.result c.f.result c.f.new.self c.f.ensures, refl) in
    let same = same_element ps c.in-Some.id x c.element.ensures c.take_element-element.result c.take_element-element.ensures.value in
    let gone = c.take_element-element.ensures.removed ∙ ap (λ z. without kb (elements ps) (kb z)) (sym same) in (
      callable_others g.F.FnMut c.elements.f x _ _ splits c.elements.invariant.0 c.f.result c.f.new.self asks.0,
      stays.0,
      subst (λ l. IsContent kb l) (sym gone) (without_content kb (elements ps) (kb x) c.elements.invariant.2),
      retaining_gone kb (AsksElement g.F.FnMut) _ _ (elements ps) _ _ c.elements.f c.f.new.self x c.f.result asks splits c.elements.invariant.3 c.if-f.false c.elements.invariant.2 _ gone,
    )

pub returns : goal.returns
returns g c = retaining_end g.K.AsBytes.bytes (AsksElement g.F.FnMut) _ _ (elements c.elements.self) _ c.elements.f c.elements.invariant.3 (elements_none _ c.in_default.ensures.passes.0)
