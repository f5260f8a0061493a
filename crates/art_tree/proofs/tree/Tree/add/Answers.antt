use Rattle.std.proofs.Common.{◌≡◌, lit<, refl, subst, sym, Option, Ok, false}
use Rattle.blart_keys.specs.Bytes.{related}
use Rattle.blart_keys.proofs.RankLemmas.{Member}
use Rattle.art_kinds.specs.Nodes.{at}
use Rattle.art_kinds.specs.declared.records.ids.Child.{Child}
use Rattle.art_tree.specs.Adding.{Adds}
use Rattle.art_tree.specs.Calls.Placing.{IsShownIn, content_of}
use Rattle.art_tree.specs.Content.{Content}
use Rattle.art_tree.specs.Leaves.{Numbered, keys_in, bytes}
use Rattle.art_tree.specs.Points.{IsGood}
use Rattle.art_tree.specs.declared.tree.point.Point.TheVariants.{Exact, Related}
use Rattle.art_tree.specs.declared.tree.add.Added.TheVariants.{Placed}
use Rattle.art_tree.proofs.CallerLemmas.{free_alone}
use Rattle.art_tree.proofs.Invariant.Soundness.{rootless, sound_same}
use Rattle.art_tree.proofs.NumberedPairs.Added.{adds_placed, adds_refused}
use Rattle.art_tree.proofs.tree.Tree.add.Goals as goal

-- ---- no pairs

pub add_first-requires : goal.add_first-requires
add_first-requires g c =
    let i = c.self.inside in
    (lit< tt, (c.self.invariant, rootless g.K.AsBytes.bytes i.leaves.pairs (at i.skeleton.nodes) i.skeleton.root c.self.invariant.shape c.in-None.is))

pub returns-in_err-add_first-in-None-clause-added : goal.returns-in_err-add_first-in-None-clause-added
returns-in_err-add_first-in-None-clause-added g c =
    let kb = g.K.AsBytes.bytes in
    let i = c.self.inside in
    let x : g.row.K.Denot × g.row.V.Denot = (c.args.key, c.args.value) in
    let new = content_of c.add_first.new.leaves c.add_first.new.skeleton.nodes in
    let none = rootless kb i.leaves.pairs (at i.skeleton.nodes) i.skeleton.root c.self.invariant.shape c.in-None.is in
    let alone : (y : Numbered g.row.K.Denot g.row.V.Denot) → Member y i.leaves.pairs → related (bytes kb y) (kb x.0) ≡ false = λ y m. absurd (subst (Member y) none m) in
    subst (λ (t : Content g.row.K.Denot g.row.V.Denot). Adds kb t new x c.from_residual.result) c.self.view_is (adds_refused kb x (content_of i.leaves i.skeleton.nodes) new c.from_residual.result c.from_residual.ensures.0 alone c.in_err-add_first-in-None.ensures.pairs)

pub returns-in-None-clause-added : goal.returns-in-None-clause-added
returns-in-None-clause-added g c =
    let kb = g.K.AsBytes.bytes in
    let i = c.self.inside in
    let x : g.row.K.Denot × g.row.V.Denot = (c.args.key, c.args.value) in
    let new = c.add_first.new in
    let none = rootless kb i.leaves.pairs (at i.skeleton.nodes) i.skeleton.root c.self.invariant.shape c.in-None.is in
    let alone : (y : Numbered g.row.K.Denot g.row.V.Denot) → Member y i.leaves.pairs → related (bytes kb y) (kb x.0) ≡ false = λ y m. absurd (subst (Member y) none m) in
    subst (λ (t : Content g.row.K.Denot g.row.V.Denot). Adds kb t (content_of new.leaves new.skeleton.nodes) x (Ok Placed)) c.self.view_is (adds_placed kb x i.leaves new.leaves i.skeleton.nodes new.skeleton.nodes _ alone c.in_ok-add_first-in-None.ensures.placed)

-- ---- a gap

pub add_beside-requires : goal.add_beside-requires
add_beside-requires g c =
    let i = c.self.inside in
    let p = c.in-Free.gap in
    let fork = subst (λ (r : Option Child). IsShownIn g.row.PREFIX_LEN (keys_in g.K.AsBytes.bytes i.leaves.pairs) (at i.skeleton.nodes) r p.nearest p.depth p.fork) (sym c.in-Some.is) c.in-Free.ensures.fork in
    (lit< tt, (c.self.invariant, (rw c.as_bytes.ensures at c.in-Free.ensures.good, fork)))

pub invariant_of-self-in_err-add_beside-in-Free : goal.invariant_of-self-in_err-add_beside-in-Free
invariant_of-self-in_err-add_beside-in-Free g c =
    let i = c.self.inside in
    let e = c.in_err-add_beside-in-Free.ensures in
    rw e.root (sound_same g.K.AsBytes.bytes i.leaves c.add_beside.new.leaves i.skeleton.nodes c.add_beside.new.skeleton.nodes i.skeleton.root c.self.invariant e.pairs e.nodes)

pub returns-in_err-add_beside-in-Free-clause-added : goal.returns-in_err-add_beside-in-Free-clause-added
returns-in_err-add_beside-in-Free-clause-added g c =
    let kb = g.K.AsBytes.bytes in
    let i = c.self.inside in
    let x : g.row.K.Denot × g.row.V.Denot = (c.args.key, c.args.value) in
    let new = content_of c.add_beside.new.leaves c.add_beside.new.skeleton.nodes in
    let free = rw c.as_bytes.ensures at c.in-Free.ensures.good in
    let alone = free_alone kb i.leaves.pairs c.self.invariant.content c.law.ensures.distinct (kb x.0) c.in-Free.gap free in
    subst (λ (t : Content g.row.K.Denot g.row.V.Denot). Adds kb t new x c.from_residual-in_err-add_beside-in-Free.result) c.self.view_is (adds_refused kb x (content_of i.leaves i.skeleton.nodes) new c.from_residual-in_err-add_beside-in-Free.result c.from_residual-in_err-add_beside-in-Free.ensures.0 alone c.in_err-add_beside-in-Free.ensures.pairs)

pub returns-in_ok-add_beside-in-Free-clause-added : goal.returns-in_ok-add_beside-in-Free-clause-added
returns-in_ok-add_beside-in-Free-clause-added g c =
    let kb = g.K.AsBytes.bytes in
    let i = c.self.inside in
    let x : g.row.K.Denot × g.row.V.Denot = (c.args.key, c.args.value) in
    let new = c.add_beside.new in
    let free = rw c.as_bytes.ensures at c.in-Free.ensures.good in
    let alone = free_alone kb i.leaves.pairs c.self.invariant.content c.law.ensures.distinct (kb x.0) c.in-Free.gap free in
    subst (λ (t : Content g.row.K.Denot g.row.V.Denot). Adds kb t (content_of new.leaves new.skeleton.nodes) x (Ok Placed)) c.self.view_is (adds_placed kb x i.leaves new.leaves i.skeleton.nodes new.skeleton.nodes _ alone c.in_ok-add_beside-in-Free.ensures.placed)

-- ---- related keys

pub returns-in-Exact-clause-added : goal.returns-in-Exact-clause-added
returns-in-Exact-clause-added g c =
    let good = rw c.as_bytes.ensures at c.in-Exact.ensures.good in
    (subst (λ (t : Content g.row.K.Denot g.row.V.Denot). IsGood g.K.AsBytes.bytes t.pairs (Exact c.in-Exact.id) (g.K.AsBytes.bytes c.args.key)) c.self.view_is good, refl, refl)

pub returns-in-Related-clause-added : goal.returns-in-Related-clause-added
returns-in-Related-clause-added g c =
    let good = rw c.as_bytes.ensures at c.in-Related.ensures.good in
    ((c.in-Related.last, subst (λ (t : Content g.row.K.Denot g.row.V.Denot). IsGood g.K.AsBytes.bytes t.pairs (Related c.in-Related.first c.in-Related.last) (g.K.AsBytes.bytes c.args.key)) c.self.view_is good), refl, refl)
