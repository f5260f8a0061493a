use Rattle.std.proofs.Common.{rules, ◌≡◌, ◌∙◌, ap, sym, length, None, refl, ◌+◌, List, Vec, ℕ, option_map}
use Rattle.std.specs.Global.{Global}
use Rattle.blart_keys.specs.KeyBytes.{vec_bytes}
use Rattle.blart_keys.specs.Stored.{pair_at, has}
use Rattle.blart_map.specs.Content.{pairs}
use Rattle.prefix_router.proofs.AscendingLemmas.{ranked_from}
use Rattle.prefix_router.proofs.MountsLemmas.{absent_path, Unmounts, unmounts, unmounts_nothing}
use Rattle.prefix_router.proofs.PlaceLemmas.{told}
use Rattle.prefix_router.proofs.routes.Routes.unmount.Goals as goal
use Rattle.prefix_router.proofs.routes.Routes.unmount.Goals.{After-drop_empty, After-from_residual}
use Rattle.prefix_router.proofs.routes.Routes.unmount.Given.{Over}

-- nothing is mounted at the path
none : (g : Over) (c : After-from_residual g) → pair_at vec_bytes c.args.self.now.mounts c.args.path.now ≡ None
none g c =
    let nowhere = told (λ q table. has vec_bytes (pairs table) q) c.self.inside.tables.items c.deref.result.now c.args.path.now c.args.path.now None c.deref.ensures.value refl c.in_err-place.ensures in
    absent_path c.self.inside.tables.items c.args.self.now.mounts (ap (λ v. v.mounts) c.self.view_is) c.args.path.now nowhere

pub returns-in_err-place-clause-old : goal.returns-in_err-place-clause-old
returns-in_err-place-clause-old g c = c.from_residual.ensures ∙ ap (option_map (λ (p : Vec ℕ Global × g.row.V.Denot). p.1)) (sym (none g c))

pub returns-in_err-place-clause-unmounted : goal.returns-in_err-place-clause-unmounted
returns-in_err-place-clause-unmounted g c = (none g c, λ r off. refl)

pub returns-in_err-place-clause-routes : goal.returns-in_err-place-clause-routes
returns-in_err-place-clause-routes g c = unmounts_nothing c.args.self.now.mounts (ranked_from vec_bytes c.args.self.now.mounts c.law.ensures.ascends) c.args.path.now (none g c)

-- what the call did
facts : (g : Over) (c : After-drop_empty g) → Unmounts c.args.self.now.mounts c.drop_empty.new.tables.items c.self.inside.count c.args.path.now c.take-target.result
facts g c =
    let same = c.drop_empty.ensures.same in
    unmounts c.self.inside.tables.items c.drop_empty.new.tables.items c.args.self.now.mounts (ap (λ v. v.mounts) c.self.view_is) c.args.path.now c.self.inside.count c.self.invariant c.take-target.result c.take-target.ensures.old c.take-target.ensures.some
    (λ r off. ap (λ (S : List (Vec ℕ Global × g.row.V.Denot)). pair_at vec_bytes S r) same ∙ c.take-target.ensures.others r off)
    (ap (λ (S : List (Vec ℕ Global × g.row.V.Denot)). length S + 1) same ∙ c.take-target.ensures.len)

pub invariant_of-self : goal.invariant_of-self
invariant_of-self g c = (facts g c).counted

pub returns : goal.returns
returns g c =
    let did = facts g c in
    record {
      old = did.value;
      unmounted = did.updates;
      routes = did.routes;
      len = did.len;
      tables = search rules;
    }
