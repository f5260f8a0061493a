use Rattle.std.proofs.Common.{◌≡◌, length}
use Rattle.art_edits.specs.Spans.{Spans, UnrelatedStand, thinned}
use Rattle.art_edits.proofs.thinning.leave_one.Given as goal

abbrev pub invariant-thin : goal.invariant-thin
invariant-thin g l = record {
  spans : Spans g.K.AsBytes.bytes l.tree.pairs l.query l.id l.last;
  others : UnrelatedStand g.K.AsBytes.bytes l.initial.tree.pairs l.query l.tree.pairs;
  same_thinned : thinned g.K.AsBytes.bytes l.tree.pairs l.query l.last ≡ thinned g.K.AsBytes.bytes l.initial.tree.pairs l.query l.last;
}

abbrev pub decreases-thin : goal.decreases-thin
decreases-thin g l = length l.tree.pairs
