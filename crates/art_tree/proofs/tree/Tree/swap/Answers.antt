use Rattle.std.proofs.Common.{sym, subst, refl}
use Rattle.art_tree.specs.Content.{Content}
use Rattle.art_tree.specs.Leaves.{Has, keys_in, with_pair}
use Rattle.art_kinds.specs.Nodes.{at}
use Rattle.art_tree.specs.Takes.{MayTake}
use Rattle.art_tree.proofs.Invariant.Exchanging.{shape_exchanged}
use Rattle.art_tree.proofs.NumberedPairs.KeyChanges.{exchanges_from}
use Rattle.art_rows.proofs.CallerLemmas.{others-with_pair, leaf_in-with_now}
use Rattle.art_tree.proofs.NumberedPairs.Changes.{content_with, near_new, apart_key}
use Rattle.art_tree.proofs.Invariant.Soundness.{sound_same}
use Rattle.art_tree.proofs.tree.Tree.swap.Goals as goal

pub invariant_of-self : goal.invariant_of-self
invariant_of-self g c =
    let key_bytes = g.K.AsBytes.bytes in
    let i = c.self.inside in
    let old = i.leaves.pairs in
    let id = c.args.id in
    let y : g.row.K.Denot × g.row.V.Denot = (c.args.key, c.args.value) in
    let x = c.exchange.result in
    let d = c.law.ensures.distinct in
    let has = subst (λ (t : Content g.row.K.Denot g.row.V.Denot). Has t.pairs id) (sym c.self.view_is) c.requires.has in
    let may = subst (λ (t : Content g.row.K.Denot g.row.V.Denot). MayTake key_bytes t.pairs id (key_bytes c.args.key)) (sym c.self.view_is) c.requires.may in
    let new = with_pair old id y in
    let ex = exchanges_from key_bytes old new id (others-with_pair old id y) x y c.exchange.ensures.value (leaf_in-with_now old id y has) in
    let was = c.self.invariant in
    let apart = apart_key key_bytes old id y d may in
    let near = near_new key_bytes old id y d may x c.exchange.ensures.value in
    sound_same key_bytes (record i.leaves { pairs = new }) c.exchange.new.self i.skeleton.nodes i.skeleton.nodes i.skeleton.root
    (record {
      content = content_with key_bytes old id y d may was.content;
      shape = shape_exchanged (keys_in key_bytes old) (keys_in key_bytes new) (at i.skeleton.nodes) i.skeleton.root id (key_bytes x.0) (key_bytes c.args.key) was.shape ex near apart;
    })
    c.exchange.ensures.pairs (λ j. refl)

pub returns-clause-now : goal.returns-clause-now
returns-clause-now g c =
    let has = subst (λ (t : Content g.row.K.Denot g.row.V.Denot). Has t.pairs c.args.id) (sym c.self.view_is) c.requires.has in
    rw c.exchange.ensures.pairs (leaf_in-with_now c.self.inside.leaves.pairs c.args.id (c.args.key, c.args.value) has)

pub returns-clause-others : goal.returns-clause-others
returns-clause-others g c = rw (← c.self.view_is, c.exchange.ensures.pairs) (others-with_pair c.self.inside.leaves.pairs c.args.id (c.args.key, c.args.value))
