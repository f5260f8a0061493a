use Rattle.std.proofs.Common.{rules, ◌∙◌, ◌&&◌, ap, sym, filter, ◌∷◌}
use Rattle.blart_keys.specs.Bounds.{is_from_start, slice_bound}
use Rattle.blart_keys.specs.Bytes.{begins, less}
use Rattle.blart_keys.specs.KeyBytes.{vec_bytes}
use Rattle.prefix_router.proofs.AscendingLemmas.{ranked_from}
use Rattle.prefix_router.proofs.NestingLemmas.{next_under, nothing_left}
use Rattle.prefix_router.proofs.under.UnderIterator.next.Goals as goal

pub returns-in_err-mount-clause-steps : goal.returns-in_err-mount-clause-steps
returns-in_err-mount-clause-steps g c =
    let none = sym c.self.view_is ∙ nothing_left vec_bytes c.self.inside.routes.now.mounts (ranked_from vec_bytes c.self.inside.routes.now.mounts c.law.ensures.ascends) (λ r. is_from_start (slice_bound c.self.inside.low) r && begins c.self.inside.front.now r) less c.in_err-mount.ensures in
    rw c.from_residual.ensures (none, none)

pub returns-clause-steps : goal.returns-clause-steps
returns-clause-steps g c =
    sym c.self.view_is
    ∙ next_under vec_bytes c.self.inside.routes.now.mounts (ranked_from vec_bytes c.self.inside.routes.now.mounts c.law.ensures.ascends) c.self.inside.front.now (slice_bound c.self.inside.low) (c.in_ok-mount.mount.0.now, c.in_ok-mount.mount.1.now) c.in_ok-mount.ensures
    ∙ ap (λ b. (c.in_ok-mount.mount.0.now, c.in_ok-mount.mount.1.now) ∷ filter (λ p. less b (vec_bytes p.0) && begins c.self.inside.front.now (vec_bytes p.0)) c.self.inside.routes.now.mounts) (sym c.as_slice.ensures.value)

pub returns-clause-goes : goal.returns-clause-goes
returns-clause-goes g c =
    let e = returns-clause-steps g c in
    search rules
