use Rattle.std.proofs.Common.{◌≡◌, ◌∙◌, ap, sym, arith, List, [], ◌∷◌, ◌++◌, Some, None, not, length, ◌+◌, length-append, subst}
use Rattle.std.proofs.lemmas.Bool.{not-true}
use Rattle.std.proofs.lemmas.Result.{on_ok_weaker}
use Rattle.std.proofs.lemmas.List.Quantifiers.{position-Some}
use Rattle.blart_keys.specs.KeyBytes.{vec_bytes}
use Rattle.blart_keys.specs.Stored.{overlaps, Updates}
use Rattle.blart_map.specs.Content.{pairs}
use Rattle.prefix_router.specs.Tables.{all_mounts}
use Rattle.prefix_router.proofs.PlaceLemmas.{told, place_free, updates_at, length_at, no_lists, nothing_overlaps, updates_push}
use Rattle.prefix_router.proofs.tables.add.Goals as goal

pub put-requires : goal.put-requires
put-requires g c =
    let place = told (λ q t. not (overlaps vec_bytes (pairs t) q)) c.args.tables.now.items c.deref.result.now c.args.path.items c.as_slice.result.now (Some c.in-Some.place) c.deref.ensures.value c.as_slice.ensures.value c.in-Some.ensures in
    let first = position-Some _ c.args.tables.now.items c.in-Some.place c.index_mut.result.now place in
    record {
      absent = (place_free vec_bytes pairs c.args.tables.now.items c.in-Some.place c.args.path.items first.0 c.index_mut.result.now c.index_mut.ensures.value c.requires).1;
      free = ap (λ t. overlaps vec_bytes (pairs t) c.args.path.items) c.index_mut.ensures.value ∙ not-true _ first.1;
    }

pub put-requires-in-None-clause-free : goal.put-requires-in-None-clause-free
put-requires-in-None-clause-free g c = nothing_overlaps vec_bytes (pairs c.new-table.result) c.args.path.items c.new-table.ensures.empty

pub returns-in-Some-clause-updates : goal.returns-in-Some-clause-updates
returns-in-Some-clause-updates g c =
    let place = told (λ q t. not (overlaps vec_bytes (pairs t) q)) c.args.tables.now.items c.deref.result.now c.args.path.items c.as_slice.result.now (Some c.in-Some.place) c.deref.ensures.value c.as_slice.ensures.value c.in-Some.ensures in
    let first = position-Some _ c.args.tables.now.items c.in-Some.place c.index_mut.result.now place in
    let at = place_free vec_bytes pairs c.args.tables.now.items c.in-Some.place c.args.path.items first.0 c.index_mut.result.now c.index_mut.ensures.value c.requires in
    on_ok_weaker c.put.result (updates_at vec_bytes pairs c.args.tables.now.items c.in-Some.place c.index_mut.result.now c.put.new.table c.args.path.items (c.args.path, c.args.target) at.0) c.put.ensures.updates

pub returns-in-Some-clause-len : goal.returns-in-Some-clause-len
returns-in-Some-clause-len g c =
    let place = told (λ q t. not (overlaps vec_bytes (pairs t) q)) c.args.tables.now.items c.deref.result.now c.args.path.items c.as_slice.result.now (Some c.in-Some.place) c.deref.ensures.value c.as_slice.ensures.value c.in-Some.ensures in
    let first = position-Some _ c.args.tables.now.items c.in-Some.place c.index_mut.result.now place in
    let more = length_at vec_bytes pairs c.args.tables.now.items c.in-Some.place c.index_mut.result.now c.put.new.table first.0 c.index_mut.ensures.value in
    on_ok_weaker c.put.result (λ e. omega (arith, more, e)) c.put.ensures.len

pub returns-in_default-clause-updates : goal.returns-in_default-clause-updates
returns-in_default-clause-updates g c =
    let items : c.push_reserved.new.self.items ≡ c.args.tables.now.items ++ c.put-in-None.new.table ∷ [] = c.push_reserved.ensures.items ∙ ap (λ (ts : List _). ts ++ c.put-in-None.new.table ∷ []) c.reserve.ensures.items in
    subst (λ ts. Updates vec_bytes (all_mounts c.args.tables.now.items) (all_mounts ts) c.args.path.items (Some (c.args.path, c.args.target))) (sym items)
    (updates_push vec_bytes pairs c.args.tables.now.items c.put-in-None.new.table (pairs c.new-table.result) c.args.path.items (c.args.path, c.args.target) c.requires c.new-table.ensures.nothing c.in_default.ensures.updates)

pub returns-in_default-clause-flat : goal.returns-in_default-clause-flat
returns-in_default-clause-flat g c free =
    let place = told (λ q t. not (overlaps vec_bytes (pairs t) q)) c.args.tables.now.items c.deref.result.now c.args.path.items c.as_slice.result.now None c.deref.ensures.value c.as_slice.ensures.value c.in-None.ensures in
    let none = no_lists vec_bytes pairs c.args.tables.now.items c.args.path.items place free in
    let items : c.push_reserved.new.self.items ≡ c.args.tables.now.items ++ c.put-in-None.new.table ∷ [] = c.push_reserved.ensures.items ∙ ap (λ (ts : List _). ts ++ c.put-in-None.new.table ∷ []) c.reserve.ensures.items in
    let more : length c.push_reserved.new.self.items ≡ length c.args.tables.now.items + 1 = ap (λ (ts : List _). length ts) items ∙ length-append c.args.tables.now.items _ in
    omega (arith, none, more)
