use Rattle.std.proofs.Common.{◌≡◌, ◌∙◌, ℕ, zero, suc, List, [], ◌∷◌, ◌++◌, Some, take, length, replicate, ap, sym, refl, subst, arith}
use Rattle.std.proofs.lemmas.List.{length-replicate, take-take}
use Rattle.art_kinds.specs.Nodes.{Node, at, Reprefixes}
use Rattle.art_kinds.proofs.records.nodes.Nodes.join_prefix.Goals as goal

-- the first n of `take n xs ++ ys` are the first n of `xs ++ ys`
take_front : (n : ℕ) (xs ys : List ℕ) → take n (take n xs ++ ys) ≡ take n (xs ++ ys)
take_front zero xs ys = refl
take_front (suc n) [] ys = refl
take_front (suc n) (x ∷ xs) ys = ap (λ (t : List ℕ). x ∷ t) (take_front n xs ys)

pub returns-clause-joined : goal.returns-clause-joined
returns-clause-joined g c = λ x y x_is y_is.
    let P = g.row.P in
    let b = c.args.byte in
    let a = c.node_at-above.result in
    let n = c.node_at-node.result in
    let up : Some a ≡ Some y = sym c.node_at-above.ensures.value ∙ y_is in
    let own : Some n ≡ Some x = sym c.node_at-node.ensures.value ∙ x_is in
    let a_is : a ≡ y = cc in
    let n_is : n ≡ x = cc in
    let front : c.prefix-front.result.now ≡ y.prefix = c.prefix-front.ensures.value ∙ ap (λ (z : Node). z.prefix) a_is in
    let rest : c.prefix-rest.result.now ≡ x.prefix = c.prefix-rest.ensures.value ∙ ap (λ (z : Node). z.prefix) n_is in
    let l : length (replicate {A = ℕ} P 0) ≡ P = length-replicate {A = ℕ} P 0 in
    let k : length c.copy_front-start.new.to ≡ P = c.copy_front-start.auto.to ∙ l in
    let start : take c.copy_front-start.result c.copy_front-start.new.to ≡ take P y.prefix = c.copy_front-start.ensures.copied ∙ ap (λ i. take i c.prefix-front.result.now) l ∙ ap (λ (t : List ℕ). take P t) front in
    let all : take c.append-used.result c.append-used.new.to ≡ take P (y.prefix ++ b ∷ x.prefix) =
    c.append-used.ensures.appended ∙ ap (λ i. take i (take c.copy_front-start.result c.copy_front-start.new.to ++ b ∷ c.prefix-rest.result.now)) k
    ∙ ap (λ (t : List ℕ). take P (t ++ b ∷ c.prefix-rest.result.now)) start
    ∙ ap (λ (t : List ℕ). take P (take P y.prefix ++ b ∷ t)) rest
    ∙ take_front P y.prefix (b ∷ x.prefix) in
    subst (λ (t : List ℕ). Reprefixes (at c.args.self.now) (at c.set_prefix.new.self) c.args.id t) (ap (λ (t : List ℕ). take P t) all ∙ take-take P P (y.prefix ++ b ∷ x.prefix) (omega arith)) c.set_prefix.ensures.set
