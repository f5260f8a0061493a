use Rattle.std.proofs.Common.{rules, ◌≡◌, ◌∙◌, ◌+◌, ◌&&◌, ap, sym, arith, length, leb, filter, ◌∷◌}
use Rattle.blart_keys.specs.Bytes.{begins}
use Rattle.blart_keys.specs.KeyBytes.{vec_bytes}
use Rattle.prefix_router.proofs.AscendingLemmas.{ranked_from}
use Rattle.prefix_router.proofs.NestingLemmas.{next_front, nothing_left}
use Rattle.prefix_router.specs.Best.{is_shorter}
use Rattle.prefix_router.proofs.resolve_all.ResolveAllIterator.next.Goals as goal

pub returns-in_err-front-clause-steps : goal.returns-in_err-front-clause-steps
returns-in_err-front-clause-steps g c =
    let none = sym c.self.view_is ∙ nothing_left vec_bytes c.self.inside.routes.now.mounts (ranked_from vec_bytes c.self.inside.routes.now.mounts c.law.ensures.ascends) (λ r. begins r c.self.inside.path.now && leb c.self.inside.least (length r)) is_shorter c.in_err-front.ensures in
    rw c.from_residual.ensures (none, none)

pub returns-clause-steps : goal.returns-clause-steps
returns-clause-steps g c =
    let own : length c.in_ok-front.front.0.now.items ≡ c.len.result = omega arith in
    sym c.self.view_is
    ∙ next_front vec_bytes c.self.inside.routes.now.mounts (ranked_from vec_bytes c.self.inside.routes.now.mounts c.law.ensures.ascends) c.self.inside.path.now c.self.inside.least (c.in_ok-front.front.0.now, c.in_ok-front.front.1.now) c.in_ok-front.ensures
    ∙ ap (λ n. (c.in_ok-front.front.0.now, c.in_ok-front.front.1.now) ∷ filter (λ p. begins (vec_bytes p.0) c.self.inside.path.now && leb (n + 1) (length (vec_bytes p.0))) c.self.inside.routes.now.mounts) own

pub returns-clause-goes : goal.returns-clause-goes
returns-clause-goes g c =
    let e = returns-clause-steps g c in
    search rules
