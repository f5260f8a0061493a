use Rattle.std.proofs.Common.{◌≡◌, ◌∙◌, List, [], length, length-append, ap, sym, lit<}
use Rattle.art_tree.proofs.CallerLemmas.{Has-last, no_last}
use Rattle.blart_keys.proofs.StoredLemmas.{takes_last}
use Rattle.art_tree.specs.Pairs.{pairs_of}
use Rattle.blart_map.specs.Content.{pairs}
use Rattle.art_edits.proofs.Numbers.{last_pair, whole_pairs}
use Rattle.blart_map.proofs.Popped.{routes_last}
use Rattle.blart_map.proofs.map.TreeMap.pop_last.Goals as goal

pub returns-in_err-id-clause-last : goal.returns-in_err-id-clause-last
unfolding pairs
returns-in_err-id-clause-last g c =
    let none : (pairs_of c.args.self.now) ≡ [] = ap pairs_of (sym c.self.view_is) ∙ ap pairs_of (no_last c.self.inside.tree.pairs (sym c.in_err-id.ensures)) in
    rw c.from_residual.ensures (none, none)

pub remove-requires : goal.remove-requires
unfolding pairs
remove-requires g c = (lit< tt, Has-last c.self.inside.tree.pairs c.in_ok-id.id (sym c.in_ok-id.ensures))

pub returns-clause-last : goal.returns-clause-last
unfolding pairs
returns-clause-last g c =
    rw (c.remove.ensures.rest, ← c.self.view_is) (last_pair c.self.inside.tree.pairs c.in_ok-id.id c.remove.result c.law.ensures.distinct (sym c.in_ok-id.ensures) c.remove.ensures.value)

pub returns-clause-taken : goal.returns-clause-taken
unfolding pairs
returns-clause-taken g c =
    let kb = g.K.AsBytes.bytes in
    let ps = c.self.inside.tree.pairs in
    takes_last kb (pairs_of c.args.self.now) (pairs_of c.remove.new.self.pairs) c.remove.result (whole_pairs kb ps (pairs_of c.args.self.now) (ap pairs_of c.self.view_is) c.law.ensures.content) (returns-clause-last g c)

pub returns-clause-len : goal.returns-clause-len
unfolding pairs
returns-clause-len g c = sym (ap (λ (l : List (g.row.K.Denot × g.row.V.Denot)). length l) (returns-clause-last g c) ∙ simp length-append)

pub returns-clause-routes : goal.returns-clause-routes
unfolding pairs
returns-clause-routes g c =
    let kb = g.K.AsBytes.bytes in
    let ps = c.self.inside.tree.pairs in
    routes_last kb (pairs_of c.args.self.now) (pairs_of c.remove.new.self.pairs) c.remove.result (whole_pairs kb ps (pairs_of c.args.self.now) (ap pairs_of c.self.view_is) c.law.ensures.content) (returns-clause-last g c)
