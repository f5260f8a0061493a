use Rattle.std.proofs.Common.{sym, ap, ◌∙◌, lit<, option_map}
use Rattle.blart_keys.proofs.Options.{is_some}
use Rattle.art_tree.specs.Leaves.{Numbered, leaf_in}
use Rattle.art_tree.proofs.NumberedPairs.LookUps.{found_at, without_found, without_none}
use Rattle.art_tree.proofs.NumberedPairs.Outside.{stood_without}
use Rattle.art_tree.proofs.tree.Tree.take.Goals as goal

pub returns-in_err-path-clause-rest : goal.returns-in_err-path-clause-rest
returns-in_err-path-clause-rest g c = rw (← c.self.view_is) (without_none g.K.AsBytes.bytes c.self.inside.leaves.pairs c.self.invariant.content c.law.ensures.distinct c.args.query.now c.in_err-path.ensures.found)

pub take_leaf-requires : goal.take_leaf-requires
take_leaf-requires g c =
    let S = c.self.inside.leaves.pairs in
    let f = found_at g.K.AsBytes.bytes S c.self.invariant.content c.law.ensures.distinct c.args.query.now c.in_ok-path.path.id c.in_ok-path.ensures.found in
    (lit< tt, (c.self.invariant, (is_some (leaf_in S c.in_ok-path.path.id) f.0 f.2, c.in_ok-path.ensures.path)))

pub returns-clause-taken : goal.returns-clause-taken
returns-clause-taken g c =
    let S = c.self.inside.leaves.pairs in
    let f = found_at g.K.AsBytes.bytes S c.self.invariant.content c.law.ensures.distinct c.args.query.now c.in_ok-path.path.id c.in_ok-path.ensures.found in
    rw (← c.self.view_is) (sym c.take_leaf.ensures.value ∙ f.2 ∙ sym (ap (option_map (λ (p : Numbered _ _). p.1)) f.1))

pub returns-clause-rest : goal.returns-clause-rest
returns-clause-rest g c =
    let S = c.self.inside.leaves.pairs in
    let f = found_at g.K.AsBytes.bytes S c.self.invariant.content c.law.ensures.distinct c.args.query.now c.in_ok-path.path.id c.in_ok-path.ensures.found in
    rw (← c.self.view_is) (c.take_leaf.ensures.rest ∙ without_found g.K.AsBytes.bytes S c.self.invariant.content c.law.ensures.distinct c.args.query.now c.in_ok-path.path.id f.0 f.1 f.2)

pub returns-clause-others : goal.returns-clause-others
returns-clause-others g c =
    let S = c.self.inside.leaves.pairs in
    rw (← c.self.view_is, c.take_leaf.ensures.rest) (stood_without S c.in_ok-path.path.id c.law.ensures.distinct)
