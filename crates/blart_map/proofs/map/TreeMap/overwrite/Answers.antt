use Rattle.std.proofs.Common.{lit<, subst, ap, ◌∙◌}
use Rattle.blart_keys.specs.Steps.{bytes}
use Rattle.blart_keys.proofs.Mapped.{content_map}
use Rattle.art_tree.specs.Leaves.{leaf_in, with_pair}
use Rattle.art_tree.proofs.CallerLemmas.{leaf_in-with_now}
use Rattle.art_edits.specs.Spans.{LeavesOne}
use Rattle.art_edits.proofs.Related.Thinning.{first_has, one_takes, over_one}
use Rattle.blart_map.proofs.map.TreeMap.overwrite.Goals as goal

pub swap-requires : goal.swap-requires
swap-requires g c =
    let kb = g.K.AsBytes.bytes in
    let mid = c.leave_one.new.tree.pairs in
    let one = rw c.as_bytes.ensures at c.leave_one.ensures.one in
    (lit< tt, (first_has kb mid c.law-2.ensures.content c.law-2.ensures.distinct (kb c.args.key) c.args.last c.args.last one, one_takes kb mid c.law-2.ensures.content c.law-2.ensures.distinct (kb c.args.key) c.args.last one))

pub returns-clause-over : goal.returns-clause-over
returns-clause-over g c =
    let kb = g.K.AsBytes.bytes in
    let old = c.self.inside.tree.pairs in
    let mid = c.leave_one.new.tree.pairs in
    let new = c.swap.new.self.pairs in
    let one = subst (λ q. LeavesOne kb old q c.args.last mid) c.as_bytes.ensures c.leave_one.ensures in
    rw (← c.self.view_is) (over_one kb old mid new c.args.last (c.args.key, c.args.value) c.law.ensures.distinct c.law-2.ensures.content c.law-2.ensures.distinct c.law-3.ensures.content c.law-3.ensures.distinct one c.swap.ensures.pairs)

pub returns-clause-now : goal.returns-clause-now
returns-clause-now g c =
    let kb = g.K.AsBytes.bytes in
    let mid = c.leave_one.new.tree.pairs in
    let one = rw c.as_bytes.ensures at c.leave_one.ensures.one in
    ap (λ ps. leaf_in ps c.args.last) c.swap.ensures.pairs ∙ leaf_in-with_now mid c.args.last (c.args.key, c.args.value) (first_has kb mid c.law-2.ensures.content c.law-2.ensures.distinct (kb c.args.key) c.args.last c.args.last one)

pub returns-clause-exact : goal.returns-clause-exact
returns-clause-exact g c =
    let one = rw c.as_bytes.ensures at c.leave_one.ensures.exact in
    rw (← c.self.view_is) (c.swap.ensures.pairs ∙ ap (λ ps. with_pair ps c.args.last (c.args.key, c.args.value)) one)

pub returns-clause-content : goal.returns-clause-content
returns-clause-content g c =
    rw (← c.self.view_is) (content_map (λ p. p.1) (bytes g.K.AsBytes.bytes) c.self.inside.tree.pairs c.law.ensures.content)
