use Rattle.std.proofs.Common.{rules, ◌∙◌, ap, sym, subst, Some, None, List, Vec, ℕ, Option, option_map, is_some, Result, Ok, Err, OnErr}
use Rattle.std.specs.Global.{Global}
use Rattle.blart_keys.specs.KeyBytes.{vec_bytes}
use Rattle.blart_keys.specs.Stored.{pair_at, has, kept, kept_pair, Updates}
use Rattle.blart_keys.proofs.StoredLemmas.{is_some-map, kept_bytes}
use Rattle.blart_map.specs.Content.{pairs}
use Rattle.prefix_router.proofs.AscendingLemmas.{ranked_from}
use Rattle.prefix_router.proofs.MountsLemmas.{seen_found, seen_value, ranked_mounts, updates_mounts, counted_same, absent_path, len_mounted}
use Rattle.prefix_router.proofs.NestingLemmas.{routes_put}
use Rattle.prefix_router.proofs.PlaceLemmas.{told}
use Rattle.prefix_router.specs.Tables.{all_mounts, mounts_of}
use Rattle.prefix_router.proofs.routes.Routes.mount.Goals as goal

-- a fact holds after an error
on_err : {T E : Type 0} {P : Type 0} (r : Result T E) → P → OnErr r P
on_err (Ok x) p = tt
on_err (Err e) p = p

pub invariant_of-self : goal.invariant_of-self
invariant_of-self g c =
    let there = sym (is_some-map (λ (p : Vec ℕ Global × g.row.V.Denot). p.1) (pair_at vec_bytes (all_mounts c.self.inside.tables.items) c.args.path.items)) ∙ ap is_some (sym c.set_target.ensures.old) ∙ c.set_target.ensures.some in
    counted_same c.self.inside.tables.items c.set_target.new.tables.items c.args.path.items c.self.inside.count _ c.self.invariant c.set_target.ensures.updates there c.set_target.ensures.len

pub returns-in-Some : goal.returns-in-Some
returns-in-Some g c =
    let T = c.self.inside.tables.items in
    let T' = c.set_target.new.tables.items in
    let S = c.args.self.now.mounts in
    let q = c.args.path.items in
    let x = kept vec_bytes S (c.args.path, c.args.target) in
    let seen = ap (λ v. v.mounts) c.self.view_is in
    let ranked = ranked_from vec_bytes S c.law.ensures.ascends in
    let old = c.set_target.ensures.old ∙ sym (seen_value T S seen q) in
    let mounted : Updates vec_bytes S (mounts_of T') q (Some x) =
    subst (λ (o : Option (Vec ℕ Global × g.row.V.Denot)). Updates vec_bytes S (mounts_of T') q (Some (kept_pair o (c.args.path, c.args.target)))) (sym (seen_found T S seen q))
    (subst (λ (U : List (Vec ℕ Global × g.row.V.Denot)). Updates vec_bytes U (mounts_of T') q (Some (kept vec_bytes (all_mounts T) (c.args.path, c.args.target)))) seen (updates_mounts T T' q _ c.set_target.ensures.updates)) in
    record {
      old = old;
      mounted = mounted;
      routes = routes_put vec_bytes S (mounts_of T') ranked (ranked_mounts T') q x (kept_bytes vec_bytes S (c.args.path, c.args.target)) mounted;
      len = len_mounted vec_bytes S (mounts_of T') ranked (ranked_mounts T') q _ mounted c.set_target.result old;
      tables = search rules;
      flat = search rules;
      absent = search rules;
      refused = search rules;
    }

pub mount_new-requires : goal.mount_new-requires
mount_new-requires g c =
    let nowhere = told (λ q table. has vec_bytes (pairs table) q) c.self.inside.tables.items c.deref.result.now c.args.path.items c.as_slice.result.now None c.deref.ensures.value c.as_slice.ensures.value c.in-None.ensures in
    let none = absent_path c.self.inside.tables.items c.args.self.now.mounts (ap (λ v. v.mounts) c.self.view_is) c.args.path.items nowhere in
    ap is_some none

pub returns-in_err-mount_new-in-None-clause-absent : goal.returns-in_err-mount_new-in-None-clause-absent
returns-in_err-mount_new-in-None-clause-absent g c =
    let nowhere = told (λ q table. has vec_bytes (pairs table) q) c.self.inside.tables.items c.deref.result.now c.args.path.items c.as_slice.result.now None c.deref.ensures.value c.as_slice.ensures.value c.in-None.ensures in
    let none = absent_path c.self.inside.tables.items c.args.self.now.mounts (ap (λ v. v.mounts) c.self.view_is) c.args.path.items nowhere in
    on_err c.from_residual.result (ap is_some none)

pub returns-in_ok-mount_new-in-None : goal.returns-in_ok-mount_new-in-None
returns-in_ok-mount_new-in-None g c =
    let nowhere = told (λ q table. has vec_bytes (pairs table) q) c.self.inside.tables.items c.deref.result.now c.args.path.items c.as_slice.result.now None c.deref.ensures.value c.as_slice.ensures.value c.in-None.ensures in
    let none = absent_path c.self.inside.tables.items c.args.self.now.mounts (ap (λ v. v.mounts) c.self.view_is) c.args.path.items nowhere in
    let kept_is = ap (λ (o : Option (Vec ℕ Global × g.row.V.Denot)). kept_pair o (c.args.path, c.args.target)) none in
    let mounted = subst (λ (p : Vec ℕ Global × g.row.V.Denot). Updates vec_bytes c.args.self.now.mounts c.mount_new.new.self.mounts c.args.path.items (Some p)) (sym kept_is) c.in_ok-mount_new-in-None.ensures.updates in
    record {
      old = ap (option_map (λ (p : Vec ℕ Global × g.row.V.Denot). p.1)) (sym none);
      mounted = mounted;
      routes = routes_put vec_bytes c.args.self.now.mounts c.mount_new.new.self.mounts (ranked_from vec_bytes c.args.self.now.mounts c.law.ensures.ascends) (ranked_from vec_bytes c.mount_new.new.self.mounts c.law-in-None.ensures.ascends) c.args.path.items (kept vec_bytes c.args.self.now.mounts (c.args.path, c.args.target)) (kept_bytes vec_bytes c.args.self.now.mounts (c.args.path, c.args.target)) mounted;
      len = len_mounted vec_bytes c.args.self.now.mounts c.mount_new.new.self.mounts (ranked_from vec_bytes c.args.self.now.mounts c.law.ensures.ascends) (ranked_from vec_bytes c.mount_new.new.self.mounts c.law-in-None.ensures.ascends) c.args.path.items (c.args.path, c.args.target) c.in_ok-mount_new-in-None.ensures.updates None (ap (option_map (λ (p : Vec ℕ Global × g.row.V.Denot). p.1)) (sym none));
      tables = search rules;
      flat = search rules;
      absent = search rules;
      refused = search rules;
    }
