use Rattle.std.proofs.Common.{◌≡◌, ◌<◌, arith, lit<, refl, sym, subst, Option, Ok, false}
use Rattle.blart_keys.specs.Bytes.{related}
use Rattle.blart_keys.proofs.RankLemmas.{Member}
use Rattle.art_kinds.specs.Nodes.{at}
use Rattle.art_kinds.specs.declared.records.ids.Child.{Child}
use Rattle.art_tree.specs.Adding.{Adds}
use Rattle.art_tree.specs.Calls.Placing.{IsShownIn, content_of}
use Rattle.art_tree.specs.Content.{Content, room as room_of}
use Rattle.art_tree.specs.Leaves.{Numbered, keys_in, bytes}
use Rattle.art_tree.specs.Points.{IsGood}
use Rattle.art_tree.specs.declared.tree.point.Point.TheVariants.{Exact, Related}
use Rattle.art_tree.specs.declared.tree.add.Added.TheVariants.{Placed}
use Rattle.art_tree.proofs.CallerLemmas.{free_alone}
use Rattle.art_tree.proofs.Invariant.Soundness.{rootless}
use Rattle.art_tree.proofs.NumberedPairs.Added.{adds_placed}
use Rattle.art_tree.proofs.tree.Tree.add_within.Goals as goal

-- ---- no pairs

pub place_first-requires : goal.place_first-requires
place_first-requires g c =
    let kb = g.K.AsBytes.bytes in
    let l = c.self.inside.leaves in
    let n = c.self.inside.skeleton.nodes in
    let room : 0 < room_of (content_of l n) = subst (λ (t : Content g.row.K.Denot g.row.V.Denot). 0 < room_of t) (sym c.self.view_is) c.requires.room in
    (lit< tt, (c.self.invariant, (rootless kb l.pairs (at n) c.self.inside.skeleton.root c.self.invariant.shape c.in-None.is, omega arith)))

pub returns-in-None-clause-added : goal.returns-in-None-clause-added
returns-in-None-clause-added g c =
    let kb = g.K.AsBytes.bytes in
    let l = c.self.inside.leaves in
    let n = c.self.inside.skeleton.nodes in
    let x : g.row.K.Denot × g.row.V.Denot = (c.args.key, c.args.value) in
    let none = rootless kb l.pairs (at n) c.self.inside.skeleton.root c.self.invariant.shape c.in-None.is in
    let alone : (y : Numbered g.row.K.Denot g.row.V.Denot) → Member y l.pairs → related (bytes kb y) (kb x.0) ≡ false = λ y m. absurd (subst (Member y) none m) in
    subst (λ (t : Content g.row.K.Denot g.row.V.Denot). Adds kb t (content_of c.place_first.new.leaves c.place_first.new.skeleton.nodes) x (Ok Placed)) c.self.view_is (adds_placed kb x l c.place_first.new.leaves n c.place_first.new.skeleton.nodes _ alone c.place_first.ensures.placed)

-- ---- a gap

pub place_beside-requires : goal.place_beside-requires
place_beside-requires g c =
    let i = c.self.inside in
    let p = c.in-Free.gap in
    let room : 0 < room_of (content_of i.leaves i.skeleton.nodes) = subst (λ (t : Content g.row.K.Denot g.row.V.Denot). 0 < room_of t) (sym c.self.view_is) c.requires.room in
    let fork = subst (λ (r : Option Child). IsShownIn g.row.PREFIX_LEN (keys_in g.K.AsBytes.bytes i.leaves.pairs) (at i.skeleton.nodes) r p.nearest p.depth p.fork) (sym c.in-Some.is) c.in-Free.ensures.fork in
    (lit< tt, (c.self.invariant, (rw c.as_bytes.ensures at c.in-Free.ensures.good, (fork, (omega arith, omega arith)))))

pub returns-in-Free-clause-added : goal.returns-in-Free-clause-added
returns-in-Free-clause-added g c =
    let kb = g.K.AsBytes.bytes in
    let l = c.self.inside.leaves in
    let n = c.self.inside.skeleton.nodes in
    let x : g.row.K.Denot × g.row.V.Denot = (c.args.key, c.args.value) in
    let new = content_of c.place_beside.new.leaves c.place_beside.new.skeleton.nodes in
    let free = rw c.as_bytes.ensures at c.in-Free.ensures.good in
    let alone = free_alone kb l.pairs c.self.invariant.content c.law.ensures.distinct (kb x.0) c.in-Free.gap free in
    subst (λ (t : Content g.row.K.Denot g.row.V.Denot). Adds kb t new x (Ok Placed)) c.self.view_is (adds_placed kb x l c.place_beside.new.leaves n c.place_beside.new.skeleton.nodes _ alone c.place_beside.ensures.placed)

-- ---- related keys

pub returns-in-Exact-clause-added : goal.returns-in-Exact-clause-added
returns-in-Exact-clause-added g c =
    let good = rw c.as_bytes.ensures at c.in-Exact.ensures.good in
    (subst (λ (t : Content g.row.K.Denot g.row.V.Denot). IsGood g.K.AsBytes.bytes t.pairs (Exact c.in-Exact.id) (g.K.AsBytes.bytes c.args.key)) c.self.view_is good, refl, refl)

pub returns-in-Related-clause-added : goal.returns-in-Related-clause-added
returns-in-Related-clause-added g c =
    let good = rw c.as_bytes.ensures at c.in-Related.ensures.good in
    ((c.in-Related.last, subst (λ (t : Content g.row.K.Denot g.row.V.Denot). IsGood g.K.AsBytes.bytes t.pairs (Related c.in-Related.first c.in-Related.last) (g.K.AsBytes.bytes c.args.key)) c.self.view_is good), refl, refl)
