use Rattle.std.proofs.Common.{◌≡◌, ◌+◌, ◌<◌, ◌≤◌, ℕ, List, length, take, Option, Some, ap, sym, subst, ◌∙◌, refl, arith}
use Rattle.std.proofs.lemmas.List.{length-take-le, length-take}
use Rattle.art_kinds.specs.Nodes.{at, room}
use Rattle.art_kinds.specs.declared.records.ids.Child.TheVariants.{Inner}
use Rattle.art_tree.specs.declared.tree.build.LooseEdge.{LooseEdge}
use Rattle.art_tree.specs.Calls.Building.{last_depth, start_after, IsPart}
use Rattle.art_tree.proofs.Invariant.Closing.{part_opened, start_last, start_least}
use Rattle.art_tree.proofs.tree.build.close.Goals as goal

pub up-init : goal.up-init
up-init g c = record {
  part = λ keys t p. part_opened keys (at c.args.nodes.now) c.args.key.now c.args.loose.now.items c.args.leaf c.args.least p t;
  room = omega arith;
  fewer = omega arith;
  capacity = refl;
}

pub up-preserved : goal.up-preserved
up-preserved g c = record {
  part = λ keys t p.
      let es = c.up.loose.items in
      let depth = c.in-Some.depth in
      let q = c.up.invariant.part keys t p in
      let own : c.deref.result.now ≡ es = c.deref.ensures.value in
      let last : last_depth es ≡ Some depth = sym (ap last_depth own) ∙ c.in-Some.ensures.some.0 in
      let start : start_after c.args.least (last_depth es) ≡ depth + 1 = ap (λ (o : Option ℕ). start_after c.args.least o) last ∙ start_last c.args.least depth c.in-Some.ensures.some.1 in
      let slice : c.as_slice.result.now ≡ es = c.as_slice.ensures.value in
      let part : IsPart g.row.P keys (at c.up.nodes) c.args.key.now c.as_slice.result.now (depth + 1) c.up.child =
      subst (λ (z : List LooseEdge). IsPart g.row.P keys (at c.up.nodes) c.args.key.now z (depth + 1) c.up.child) (sym slice) (subst (λ (z : ℕ). IsPart g.row.P keys (at c.up.nodes) c.args.key.now es z c.up.child) start q) in
      let kept : take c.close_one-kept.result.0 c.as_slice.result.now ≡ c.truncate.new.self.items = ap (λ (z : List LooseEdge). take c.close_one-kept.result.0 z) slice ∙ sym c.truncate.ensures.items in
      subst (λ (z : List LooseEdge). IsPart g.row.P keys (at c.close_one-kept.new.nodes) c.args.key.now z (start_after c.args.least (last_depth z)) (Inner c.close_one-kept.result.1)) kept (c.close_one-kept.ensures.part keys c.args.leaf t part);
  room =
      let es = c.up.loose.items in
      let kept = c.close_one-kept.result.0 in
      let same : length c.as_slice.result.now ≡ length es = ap (λ (z : List LooseEdge). length z) c.as_slice.ensures.value in
      let fewer : kept < length c.as_slice.result.now = c.close_one-kept.ensures.fewer in
      let now : length c.truncate.new.self.items ≡ length (take kept es) = ap (λ (z : List LooseEdge). length z) c.truncate.ensures.items in
      let few : length (take kept es) ≡ kept = length-take-le kept es (omega arith) in
      let one : room c.up.nodes + kept ≤ room c.close_one-kept.new.nodes + length c.as_slice.result.now = c.close_one-kept.ensures.room in
      let so : room c.args.nodes.now + length es ≤ room c.up.nodes + length c.args.loose.now.items = c.up.invariant.room in
      omega arith;
  fewer =
      let es = c.up.loose.items in
      let now : length c.truncate.new.self.items ≡ length (take c.close_one-kept.result.0 es) = ap (λ (z : List LooseEdge). length z) c.truncate.ensures.items in
      let so : length es ≤ length c.args.loose.now.items = c.up.invariant.fewer in
      omega (arith, length-take c.close_one-kept.result.0 es);
  capacity = c.truncate.ensures.capacity ∙ c.up.invariant.capacity;
}

pub returns-clause-part : goal.returns-clause-part
returns-clause-part g c = λ keys t p.
    let least : (d : ℕ) → last_depth c.up.loose.items ≡ Some d → d < c.args.least = λ d is. c.in_default.ensures.none d (ap last_depth c.deref.ensures.value ∙ is) in
    subst (λ (z : ℕ). IsPart g.row.P keys (at c.up.nodes) c.args.key.now c.up.loose.items z c.up.child) (start_least c.args.least (last_depth c.up.loose.items) least) (c.up.invariant.part keys t p)
