use Rattle.std.proofs.Common.{List, length, arith, sym, ap, ◌∙◌, subst}
use Rattle.art_tree.specs.PairList.{ReplacesLast}
use Rattle.art_tree.specs.Pairs.{pairs_of}
use Rattle.art_tree.specs.Leaves.{with_value}
use Rattle.art_tree.proofs.CallerLemmas.{Has-last, no_last}
use Rattle.art_tree.proofs.PairLists.{replaced_last}
use Rattle.art_tree.proofs.pair_list.Pairs.replace_last.Goals as goal

pub unreachable-requires : goal.unreachable-requires
unreachable-requires g c =
    let none = ap (λ (l : List _). length (pairs_of l)) (no_last c.self.inside.leaves.pairs (sym c.last.ensures ∙ c.in_default.is)) in
    omega (arith, none, ap (λ t. length t.pairs) c.self.view_is, c.requires)

pub value_mut-requires : goal.value_mut-requires
value_mut-requires g c = Has-last c.self.inside.leaves.pairs c.in-Some.last (sym c.last.ensures ∙ c.in-Some.is)

pub returns-clause-replaced : goal.returns-clause-replaced
returns-clause-replaced g c =
    let ps = c.self.inside.leaves.pairs in
    let id = c.in-Some.last in
    let new = c.replace.new.dest in
    let all = pairs_of (with_value ps id new) in
    let was = ap (λ t. t.pairs) c.self.view_is in
    let replaced = replaced_last ps id c.value_mut.result.now new c.law.ensures.distinct (sym c.last.ensures ∙ c.in-Some.is) c.value_mut.ensures.value in
    let stored = subst (λ v. ReplacesLast (pairs_of ps) c.value_mut.result.now v all) c.replace.ensures.after replaced in
    let taken = subst (λ v. ReplacesLast (pairs_of ps) v c.args.value all) (sym c.replace.ensures.value) stored in
    subst (λ S. ReplacesLast S c.replace.result c.args.value all) was taken
