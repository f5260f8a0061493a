use Rattle.std.proofs.Common.{◌≡◌, ◌∙◌, ◌≤◌, ap, sym, subst, max, length, Some, false, List, Vec, ℕ}
use Rattle.std.specs.Global.{Global}
use Rattle.blart_keys.specs.KeyBytes.{vec_bytes}
use Rattle.blart_keys.specs.Stored.{overlaps, Updates}
use Rattle.prefix_router.proofs.MountsLemmas.{seen_has, updates_mounts, counted_new, overlap_mounts}
use Rattle.prefix_router.proofs.PlaceLemmas.{not_stored}
use Rattle.prefix_router.specs.Tables.{all_mounts, mounts_of, AreCounted}
use Rattle.prefix_router.proofs.routes.Routes.mount_new.Goals as goal

pub add-requires : goal.add-requires
add-requires g c = not_stored vec_bytes (all_mounts c.self.inside.tables.items) c.args.path.items (sym (seen_has c.self.inside.tables.items c.args.self.now.mounts (ap (λ v. v.mounts) c.self.view_is) c.args.path.items) ∙ c.requires)

pub invariant_of-self-2 : goal.invariant_of-self-2
invariant_of-self-2 g c =
    let none = not_stored vec_bytes (all_mounts c.self.inside.tables.items) c.args.path.items (sym (seen_has c.self.inside.tables.items c.args.self.now.mounts (ap (λ v. v.mounts) c.self.view_is) c.args.path.items) ∙ c.requires) in
    subst (AreCounted c.add.new.tables.items) (sym c.in-Some.ensures.1)
    (counted_new c.self.inside.tables.items c.add.new.tables.items c.args.path.items c.self.inside.count (c.args.path, c.args.target) c.self.invariant c.in_ok-add.ensures.updates none c.in_ok-add.ensures.len)

pub returns-clause-updates : goal.returns-clause-updates
returns-clause-updates g c =
    subst (λ (S : List (Vec ℕ Global × g.row.V.Denot)). Updates vec_bytes S (mounts_of c.add.new.tables.items) c.args.path.items (Some (c.args.path, c.args.target))) (ap (λ v. v.mounts) c.self.view_is)
    (updates_mounts c.self.inside.tables.items c.add.new.tables.items c.args.path.items (Some (c.args.path, c.args.target)) c.in_ok-add.ensures.updates)

pub returns-clause-flat : goal.returns-clause-flat
returns-clause-flat g c free =
    let apart : overlaps vec_bytes (mounts_of c.self.inside.tables.items) c.args.path.items ≡ false = ap (λ v. overlaps vec_bytes v.mounts c.args.path.items) c.self.view_is ∙ free in
    subst (λ n. length c.add.new.tables.items ≤ max n 1) (ap (λ v. v.tables) c.self.view_is) (c.in_ok-add.ensures.flat (overlap_mounts c.self.inside.tables.items c.args.path.items apart))
