use Rattle.std.proofs.Common.{◌≡◌, ◌∙◌, ℕ, List, Some, take, drop, length, replicate, ap, sym, subst, arith}
use Rattle.std.proofs.lemmas.List.{length-replicate, take-take}
use Rattle.art_kinds.specs.Nodes.{Node, at, Reprefixes}
use Rattle.art_kinds.proofs.records.nodes.Nodes.cut_prefix.Goals as goal

pub returns-clause-cut : goal.returns-clause-cut
returns-clause-cut g c = λ x x_is.
    let P = g.row.P in
    let n = c.args.count in
    let node = c.node_at-node.result in
    let own : Some node ≡ Some x = sym c.node_at-node.ensures.value ∙ x_is in
    let node_is : node ≡ x = cc in
    let kept : c.prefix-kept.result.now ≡ x.prefix = c.prefix-kept.ensures.value ∙ ap (λ (z : Node). z.prefix) node_is in
    let rest : c.bytes_after-rest.result.now ≡ drop n x.prefix = c.bytes_after-rest.ensures ∙ ap (λ (t : List ℕ). drop n t) kept in
    let l : length (replicate {A = ℕ} P 0) ≡ P = length-replicate {A = ℕ} P 0 in
    let all : take c.copy_front-used.result c.copy_front-used.new.to ≡ take P (drop n x.prefix) = c.copy_front-used.ensures.copied ∙ ap (λ i. take i c.bytes_after-rest.result.now) l ∙ ap (λ (t : List ℕ). take P t) rest in
    subst (λ (t : List ℕ). Reprefixes (at c.args.self.now) (at c.set_prefix.new.self) c.args.id t) (ap (λ (t : List ℕ). take P t) all ∙ take-take P P (drop n x.prefix) (omega arith)) c.set_prefix.ensures.set
