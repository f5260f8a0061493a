use Rattle.std.proofs.Common.{◌+◌, ◌%◌, lit<, arith}
use Rattle.art_kinds.specs.Nodes.{at, Lowers}
use Rattle.art_kinds.specs.declared.records.ids.Child.TheVariants.{Inner}
use Rattle.art_tree.proofs.Invariant.Growing.{covers_above}
use Rattle.art_kinds.proofs.CallerLemmas.{fits_more, room-placed, Lowers-same}
use Rattle.art_tree.proofs.Calls.Joining.{wide_absent, place_led}
use Rattle.art_tree.proofs.Invariant.EdgesAbove.{leads_renamed, ascends_renamed}
use Rattle.art_tree.proofs.Calls.PlacedShapes.{placed_wide}
use Rattle.art_tree.proofs.tree.skeleton.Skeleton.add_at_node.Goals as goal

pub widen-wide-requires : goal.widen-wide-requires
widen-wide-requires g c =
    let j = c.requires.fork_fits.1 in
    (lit< tt, ((covers_above j.keys (at c.args.self.now.nodes) c.args.self.now.root j.shape c.args.above.now (Inner c.args.node.now) j.fits.0.leads).live, fits_more c.args.self.now.nodes c.args.node.now (let r = c.requires.fits in omega arith)))

pub redirect_moved-requires : goal.redirect_moved-requires
redirect_moved-requires g c =
    let j = c.requires.fork_fits.1 in (
      lit< tt,
      (
        leads_renamed j.keys (at c.args.self.now.nodes) (at c.widen-wide.new.self) c.args.self.now.root j.shape c.args.node.now c.args.above.now c.widen-wide.result j.fits.0.leads c.widen-wide.ensures.moved,
        ascends_renamed j.keys (at c.args.self.now.nodes) (at c.widen-wide.new.self) c.args.self.now.root j.shape c.args.node.now c.args.above.now c.widen-wide.result j.fits.0.leads c.widen-wide.ensures.moved,
      ),
    )

pub add_edge-requires : goal.add_edge-requires
add_edge-requires g c =
    let j = c.requires.fork_fits.1 in (
      lit< tt,
      (
        place_led c.widen-wide.new.self c.redirect_moved.new.self.nodes c.args.self.now.root c.redirect_moved.new.self.root c.args.above.now (Inner c.widen-wide.result) c.widen-wide.result c.redirect_moved.ensures.turned c.widen-wide.ensures.place,
        wide_absent j.keys j.leaf c.args.leaf.now.depth c.args.leaf.now.key.now j.leaves c.requires.fork_fits.0 j.is (at c.args.self.now.nodes) (at c.widen-wide.new.self) (at c.redirect_moved.new.self.nodes) c.args.self.now.root c.redirect_moved.new.self.root c.args.node.now c.widen-wide.result c.args.above.now j.shape j.fits.1
            c.widen-wide.ensures.moved j.fits.0.leads c.redirect_moved.ensures.turned,
      ),
    )

pub returns-clause-gains : goal.returns-clause-gains
returns-clause-gains g c nearest keys keys' s leaf is leaves fits gains =
    placed_wide keys leaf c.args.leaf.now.depth c.args.leaf.now.key.now leaves nearest is keys' c.args.leaf.now.id gains (at c.args.self.now.nodes) (at c.widen-wide.new.self) (at c.redirect_moved.new.self.nodes) (at c.add_edge.new.self) c.args.self.now.root c.redirect_moved.new.self.root c.args.node.now c.widen-wide.result c.args.above.now s fits.1
    c.widen-wide.ensures.moved fits.0.leads c.redirect_moved.ensures.turned c.add_edge.ensures.added

pub returns-clause-room : goal.returns-clause-room
returns-clause-room g c =
    let k = c.widen-wide.result % 4 in
    let l : Lowers k c.args.self.now.nodes c.redirect_moved.new.self.nodes = Lowers-same k c.args.self.now.nodes c.widen-wide.new.self c.redirect_moved.new.self.nodes (omega arith) c.widen-wide.ensures.spares c.redirect_moved.ensures.spares in
    room-placed k (k + 1) c.args.self.now.nodes c.redirect_moved.new.self.nodes c.add_edge.new.self (λ e. omega (arith, e)) l c.add_edge.ensures.spares
