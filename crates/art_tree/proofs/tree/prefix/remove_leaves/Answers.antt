use Rattle.std.proofs.Common.{◌≡◌, ◌≢◌, ◌+◌, ◌∙◌, List, length, sym, ap, subst, arith, not, eqb, eq-eqb, refl, Some, inl, inr}
use Rattle.std.proofs.lemmas.Bool.{false≢true}
use Rattle.std.proofs.lemmas.Bool.Decides.{eqb_tells}
use Rattle.blart_keys.specs.Content.{IsContent, under}
use Rattle.blart_keys.specs.Outside.{outside}
use Rattle.art_tree.specs.Leaves.{leaf_in, bytes}
use Rattle.art_tree.specs.Seeks.{ends}
use Rattle.art_tree.proofs.CallerLemmas.{length-without_number}
use Rattle.art_tree.proofs.NumberedPairs.Changes.{content_without}
use Rattle.art_tree.proofs.NumberedPairs.Outside.{first_has, outside_without, next_below, stood_without}
use Rattle.art_tree.proofs.tree.prefix.remove_leaves.Goals as goal

pub position_of-at-requires : goal.position_of-at-requires
position_of-at-requires g c = first_has g.K.AsBytes.bytes c.each.leaves.pairs c.args.prefix.now c.law.ensures.distinct c.each.id c.args.last c.each.invariant.span

pub next_from-requires : goal.next_from-requires
next_from-requires g c = first_has g.K.AsBytes.bytes c.each.leaves.pairs c.args.prefix.now c.law.ensures.distinct c.each.id c.args.last c.each.invariant.span

pub unreachable-requires : goal.unreachable-requires
unreachable-requires g c =
    let off : c.each.id ≢ c.args.last = λ e. false≢true (sym (ap not (ap (λ n. eqb c.each.id n) (sym e) ∙ eq-eqb c.each.id c.each.id refl)) ∙ sym c.each-test.ensures) in
    let n = next_below g.K.AsBytes.bytes c.each.leaves.pairs c.args.prefix.now c.law.ensures.distinct c.each.id c.args.last c.each.invariant.span c.each.invariant.content off in
    c.in_default.not-Some n.0 (c.next_from.ensures ∙ n.1)

pub remove-requires : goal.remove-requires
remove-requires g c = first_has g.K.AsBytes.bytes c.each.leaves.pairs c.args.prefix.now c.law.ensures.distinct c.each.id c.args.last c.each.invariant.span

pub each-smaller : goal.each-smaller
each-smaller g c =
    let ps = c.each.leaves.pairs in
    let has = first_has g.K.AsBytes.bytes ps c.args.prefix.now c.law.ensures.distinct c.each.id c.args.last c.each.invariant.span in
    let l : length c.remove.new.self.pairs + 1 ≡ length ps = ap (λ (S : List _). length S + 1) c.remove.ensures.rest ∙ length-without_number ps c.each.id has in
    omega arith

pub each-preserved : goal.each-preserved
each-preserved g c =
    let kb = g.K.AsBytes.bytes in
    let ps = c.each.leaves.pairs in
    let q = c.args.prefix.now in
    let off : c.each.id ≢ c.args.last = λ e. false≢true (sym (ap not (ap (λ n. eqb c.each.id n) (sym e) ∙ eq-eqb c.each.id c.each.id refl)) ∙ sym c.each-test.ensures) in
    let n = next_below kb ps q c.law.ensures.distinct c.each.id c.args.last c.each.invariant.span c.each.invariant.content off in
    let f : Some n.0 ≡ Some c.in-Some.next = sym n.1 ∙ sym c.next_from.ensures ∙ c.in-Some.is in
    let same : n.0 ≡ c.in-Some.next = cc in
    record {
      content = subst (IsContent (bytes kb)) (sym c.remove.ensures.rest) (content_without kb ps c.each.id c.each.invariant.content);
      span = subst (λ i. ends (under (bytes kb) c.remove.new.self.pairs q) ≡ Some (i, c.args.last)) same (ap (λ (S : List _). ends (under (bytes kb) S q)) c.remove.ensures.rest ∙ n.2);
      rest = ap (λ (S : List _). outside (bytes kb) S q) c.remove.ensures.rest ∙ outside_without kb ps q c.law.ensures.distinct c.each.id c.args.last c.each.invariant.span ∙ c.each.invariant.rest;
      stood = λ j x e. c.each.invariant.stood j x (stood_without ps c.each.id c.law.ensures.distinct j x (ap (λ (S : List _). leaf_in S j) (sym c.remove.ensures.rest) ∙ e));
    }

pub returns-clause-ends : goal.returns-clause-ends
returns-clause-ends g c =
    let same : c.each.id ≡ c.args.last = elim (eqb_tells c.each.id c.args.last) [ inl t ↦ t.1 | inr f ↦ absurd (false≢true (c.each-test.ensures ∙ ap not f.0)) ] in
    subst (λ i. ends (under (bytes g.K.AsBytes.bytes) c.each.leaves.pairs c.args.prefix.now) ≡ Some (i, c.args.last)) same c.each.invariant.span
