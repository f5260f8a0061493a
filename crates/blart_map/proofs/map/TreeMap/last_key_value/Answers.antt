use Rattle.std.proofs.Common.{◌≡◌, ◌∙◌, [], refl, ap, sym, lit<, length, slice_get, ◌-◌}
use Rattle.art_tree.specs.Leaves.{without_number}
use Rattle.art_tree.proofs.CallerLemmas.{Has-last, no_last}
use Rattle.blart_keys.proofs.StoredLemmas.{stored_at}
use Rattle.art_tree.specs.Pairs.{pairs_of}
use Rattle.blart_map.specs.Content.{pairs}
use Rattle.art_edits.proofs.Numbers.{whole_pairs, last_pair, slice_get-last}
use Rattle.blart_map.proofs.map.TreeMap.last_key_value.Goals as goal

pub returns-in_err-id-clause-value : goal.returns-in_err-id-clause-value
unfolding pairs
returns-in_err-id-clause-value g c =
    let none : (pairs_of c.args.self.now) ≡ [] = ap pairs_of (sym c.self.view_is) ∙ ap pairs_of (no_last c.self.inside.tree.pairs (sym c.in_err-id.ensures)) in
    rw (c.from_residual.ensures, none) refl

pub leaf-requires : goal.leaf-requires
unfolding pairs
leaf-requires g c = (lit< tt, Has-last c.self.inside.tree.pairs c.in_ok-id.id (sym c.in_ok-id.ensures))

pub returns-clause-value : goal.returns-clause-value
unfolding pairs
returns-clause-value g c =
    let x : g.row.K.Denot × g.row.V.Denot = (c.leaf.result.0.now, c.leaf.result.1.now) in
    let ps = c.self.inside.tree.pairs in
    let e = last_pair ps c.in_ok-id.id x c.law.ensures.distinct (sym c.in_ok-id.ensures) c.leaf.ensures.value in
    rw (← c.self.view_is) (sym (ap (λ l. slice_get l (length l - 1)) e ∙ slice_get-last (pairs_of (without_number ps c.in_ok-id.id)) x))

pub returns-clause-stored : goal.returns-clause-stored
unfolding pairs
returns-clause-stored g c =
    let kb = g.K.AsBytes.bytes in
    let S = pairs_of c.args.self.now in
    let x : g.row.K.Denot × g.row.V.Denot = (c.leaf.result.0.now, c.leaf.result.1.now) in
    stored_at kb S (whole_pairs kb c.self.inside.tree.pairs S (ap pairs_of c.self.view_is) c.law.ensures.content) (length S - 1) x (sym (returns-clause-value g c))
