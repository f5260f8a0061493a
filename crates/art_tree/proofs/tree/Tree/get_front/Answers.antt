use Rattle.std.proofs.Common.{◌≡◌, List, ap, None, Some, sym, false, true, subst}
use Rattle.blart_keys.specs.Bytes.{begins}
use Rattle.art_tree.specs.Begins.{Bytes, Begins}
use Rattle.art_tree.proofs.BeginsLemmas.{Begins-from_begins, begins-from_Begins}
use Rattle.art_tree.specs.Calls.Descents.{IsFrontAlone}
use Rattle.art_tree.specs.Leaves.{Numbered}
use Rattle.art_tree.proofs.NumberedPairs.LookUps.{none_front, this_front, not_front}
use Rattle.art_tree.proofs.tree.Tree.get_front.Goals as goal

pub returns-in_default-clause-found : goal.returns-in_default-clause-found
returns-in_default-clause-found g c = none_front g.K.AsBytes.bytes c.args.self.now.pairs c.law.ensures.content c.law.ensures.distinct c.args.query.now (subst (λ (S : List (Numbered _ _)). IsFrontAlone g.K.AsBytes.bytes S c.args.query.now None) (ap (λ t. t.pairs) c.self.view_is) c.in_default.ensures.found)

pub returns-then-begins-clause-found : goal.returns-then-begins-clause-found
returns-then-begins-clause-found g c =
    let b : true ≡ begins c.as_bytes.result.now c.args.query.now = c.if-begins.ensures in
    this_front g.K.AsBytes.bytes c.args.self.now.pairs c.law.ensures.content c.law.ensures.distinct c.args.query.now (c.in-Some.found.0, (c.in-Some.found.1.now, c.in-Some.found.2.now)) (subst (λ (S : List (Numbered _ _)). IsFrontAlone g.K.AsBytes.bytes S c.args.query.now (Some (c.in-Some.found.0, (c.in-Some.found.1.now, c.in-Some.found.2.now)))) (ap (λ t. t.pairs) c.self.view_is) c.in-Some.ensures.found) (subst (λ (z : Bytes). Begins z c.args.query.now) c.as_bytes.ensures (Begins-from_begins c.as_bytes.result.now c.args.query.now (sym b)))

pub returns-else-begins-clause-found : goal.returns-else-begins-clause-found
returns-else-begins-clause-found g c =
    let b : false ≡ begins c.as_bytes.result.now c.args.query.now = c.if-begins.ensures in
    not_front g.K.AsBytes.bytes c.args.self.now.pairs c.law.ensures.content c.law.ensures.distinct c.args.query.now (c.in-Some.found.0, (c.in-Some.found.1.now, c.in-Some.found.2.now)) (subst (λ (S : List (Numbered _ _)). IsFrontAlone g.K.AsBytes.bytes S c.args.query.now (Some (c.in-Some.found.0, (c.in-Some.found.1.now, c.in-Some.found.2.now)))) (ap (λ t. t.pairs) c.self.view_is) c.in-Some.ensures.found) (λ h. (let t : begins c.as_bytes.result.now c.args.query.now ≡ true = begins-from_Begins c.as_bytes.result.now c.args.query.now (subst (λ (z : Bytes). Begins z c.args.query.now) (sym c.as_bytes.ensures) h) in cc))
