use Rattle.std.proofs.Common.{refl, ◌≡◌, ◌≢◌, ◌∙◌, ◌+◌, arith, lit<, ap, sym, subst, not, eqb, Some, length, eq-eqb}
use Rattle.std.proofs.lemmas.Bool.{false≢true}
use Rattle.art_tree.proofs.CallerLemmas.{length-without_number}
use Rattle.art_edits.specs.Spans.{Spans, thinned}
use Rattle.art_edits.proofs.Related.Thinning.{first_has, next_there, unrelated_without, stand_on, thinned_without, thinned_one, same_number}
use Rattle.art_edits.proofs.thinning.leave_one.Goals as goal

pub next_of-requires : goal.next_of-requires
next_of-requires g c = (lit< tt, first_has g.K.AsBytes.bytes c.thin.tree.pairs c.law.ensures.content c.law.ensures.distinct c.args.query.now c.thin.id c.args.last c.thin.invariant.spans)

pub unreachable-requires : goal.unreachable-requires
unreachable-requires g c =
    let off : c.thin.id ≢ c.args.last = λ e. false≢true (sym (ap not (ap (λ n. eqb c.thin.id n) (sym e) ∙ eq-eqb c.thin.id c.thin.id refl)) ∙ sym c.thin-test.ensures) in
    let n = next_there g.K.AsBytes.bytes c.thin.tree.pairs c.law.ensures.content c.law.ensures.distinct c.args.query.now c.thin.id c.args.last c.thin.invariant.spans off in
    c.in_default.not-Some n.0 (c.next_of.ensures ∙ n.1)

pub remove-requires : goal.remove-requires
remove-requires g c = (lit< tt, first_has g.K.AsBytes.bytes c.thin.tree.pairs c.law.ensures.content c.law.ensures.distinct c.args.query.now c.thin.id c.args.last c.thin.invariant.spans)

pub thin-smaller : goal.thin-smaller
thin-smaller g c =
    let has = first_has g.K.AsBytes.bytes c.thin.tree.pairs c.law.ensures.content c.law.ensures.distinct c.args.query.now c.thin.id c.args.last c.thin.invariant.spans in
    let l : length c.remove.new.self.pairs + 1 ≡ length c.thin.tree.pairs = ap (λ (ps : _). length ps + 1) c.remove.ensures.rest ∙ length-without_number c.thin.tree.pairs c.thin.id has in
    omega arith

pub thin-preserved : goal.thin-preserved
thin-preserved g c =
    let kb = g.K.AsBytes.bytes in
    let ps = c.thin.tree.pairs in
    let q = c.args.query.now in
    let off : c.thin.id ≢ c.args.last = λ e. false≢true (sym (ap not (ap (λ n. eqb c.thin.id n) (sym e) ∙ eq-eqb c.thin.id c.thin.id refl)) ∙ sym c.thin-test.ensures) in
    let n = next_there kb ps c.law.ensures.content c.law.ensures.distinct q c.thin.id c.args.last c.thin.invariant.spans off in
    let f : Some n.0 ≡ Some c.in-Some.next = sym n.1 ∙ sym c.next_of.ensures ∙ c.in-Some.is in
    let same : n.0 ≡ c.in-Some.next = cc in
    record {
      spans = subst (λ i. Spans kb c.remove.new.self.pairs q i c.args.last) same (subst (λ l. Spans kb l q n.0 c.args.last) (sym c.remove.ensures.rest) n.2);
      others = stand_on kb c.args.tree.now.pairs ps c.remove.new.self.pairs q c.thin.invariant.others
          (unrelated_without kb ps c.law.ensures.content c.law.ensures.distinct q c.thin.id c.args.last c.thin.invariant.spans c.remove.new.self.pairs c.remove.ensures.others c.remove.ensures.gone);
      same_thinned = ap (λ l. thinned kb l q c.args.last) c.remove.ensures.rest ∙ thinned_without kb ps c.law.ensures.content c.law.ensures.distinct q c.thin.id c.args.last c.thin.invariant.spans off ∙ c.thin.invariant.same_thinned;
    }

pub returns : goal.returns
returns g c =
    let kb = g.K.AsBytes.bytes in
    let ps = c.thin.tree.pairs in
    let q = c.args.query.now in
    let same : c.thin.id ≡ c.args.last = same_number c.thin.id c.args.last c.thin-test.ensures in
    let spans = subst (λ i. Spans kb ps q i c.args.last) same c.thin.invariant.spans in
    record {
      one = spans;
      others = c.thin.invariant.others;
      exact = thinned_one kb ps c.law-2.ensures.content c.law-2.ensures.distinct q c.args.last spans ∙ c.thin.invariant.same_thinned;
    }
