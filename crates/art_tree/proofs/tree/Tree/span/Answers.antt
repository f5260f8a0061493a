use Rattle.std.proofs.Common.{◌≡◌, ◌∙◌, ℕ, List, [], length, refl, ap, sym}
use Rattle.std.proofs.lemmas.Bool.{eqb-true}
use Rattle.std.proofs.lemmas.List.{nil_from_length}
use Rattle.blart_keys.specs.Content.{under}
use Rattle.blart_keys.specs.Bytes.{begins}
use Rattle.art_tree.specs.Leaves.{Numbered, bytes}
use Rattle.art_tree.proofs.NumberedPairs.Filtering.{filter_every}
use Rattle.art_kinds.specs.Nodes.{at}
use Rattle.art_tree.specs.Seeks.{ends}
use Rattle.art_tree.proofs.Invariant.Soundness.{rootless}
use Rattle.art_tree.proofs.tree.Tree.span.Goals as goal

pub returns-in-None-clause-found : goal.returns-in-None-clause-found
returns-in-None-clause-found g c =
    let none = ap (λ t. t.pairs) (sym c.self.view_is) ∙ rootless g.K.AsBytes.bytes c.self.inside.leaves.pairs (at c.self.inside.skeleton.nodes) c.self.inside.skeleton.root c.self.invariant.shape c.in-None.is in
    sym (ap (λ S. ends (under (bytes g.K.AsBytes.bytes) S c.args.front.now)) none)

-- each key begins with the empty list
under_none : {K V : Type 0} (kb : K → List ℕ) (S : List (Numbered K V)) (front : List ℕ) → front ≡ [] → under (bytes kb) S front ≡ S
under_none kb S front e = rw e (filter_every (λ p. begins [] (bytes kb p)) S (λ y m. refl))

pub returns-then-is_empty-clause-found : goal.returns-then-is_empty-clause-found
returns-then-is_empty-clause-found g c =
    let S = c.args.self.now.pairs in
    let none : c.args.front.now ≡ [] = nil_from_length c.args.front.now (eqb-true (length c.args.front.now) 0 (sym c.if-is_empty.ensures)) in
    c.ends.ensures ∙ sym (ap (λ T. ends T) (under_none g.K.AsBytes.bytes S c.args.front.now none))

pub returns-in-None-clause-some_counted : goal.returns-in-None-clause-some_counted
returns-in-None-clause-some_counted g c = λ bytes some. absurd (some (ap (λ t. t.pairs) (sym c.self.view_is) ∙ rootless g.K.AsBytes.bytes c.self.inside.leaves.pairs (at c.self.inside.skeleton.nodes) c.self.inside.skeleton.root c.self.invariant.shape c.in-None.is))
