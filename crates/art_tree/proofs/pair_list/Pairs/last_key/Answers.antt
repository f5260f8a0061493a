use Rattle.std.proofs.Common.{Some, sym, ap, ◌∙◌, subst}
use Rattle.art_tree.specs.PairList.{IsLastKey}
use Rattle.art_tree.specs.Pairs.{pairs_of}
use Rattle.art_tree.proofs.CallerLemmas.{Has-last, no_last}
use Rattle.art_tree.proofs.PairLists.{last_key}
use Rattle.art_tree.proofs.pair_list.Pairs.last_key.Goals as goal

pub returns-in_default : goal.returns-in_default
returns-in_default g c = ap (λ t. t.pairs) (sym c.self.view_is) ∙ ap pairs_of (no_last c.self.inside.leaves.pairs (sym c.last.ensures ∙ c.in_default.is))

pub read-requires : goal.read-requires
read-requires g c = Has-last c.self.inside.leaves.pairs c.in-Some.last (sym c.last.ensures ∙ c.in-Some.is)

pub returns : goal.returns
returns g c =
    let x : g.row.K.Denot × g.row.V.Denot = (c.read.result.0.now, c.read.result.1.now) in
    let key = last_key c.self.inside.leaves.pairs c.in-Some.last x c.law.ensures.distinct (sym c.last.ensures ∙ c.in-Some.is) c.read.ensures.value in
    subst (λ S. IsLastKey S (Some x.0)) (ap (λ t. t.pairs) c.self.view_is) key
