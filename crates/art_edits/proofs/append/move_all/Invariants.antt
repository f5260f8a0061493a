use Rattle.std.proofs.Common.{◌≡◌, ◌≤◌, List, ◌++◌, length}
use Rattle.blart_keys.specs.Merges.{IsUnion}
use Rattle.blart_keys.specs.Steps.{bytes}
use Rattle.art_tree.specs.Content.{room}
use Rattle.art_tree.specs.Pairs.{pairs_of}
use Rattle.art_edits.proofs.append.move_all.Given as goal

abbrev pub invariant-loop-key : goal.invariant-loop-key
invariant-loop-key g l = record {
  moved : List (g.row.K.Denot × g.row.V.Denot);
  whole : l.initial.from.pairs ≡ moved ++ l.from.pairs;
  union : IsUnion (bytes g.K.AsBytes.bytes) moved (pairs_of l.initial.to.pairs) (pairs_of l.to.pairs);
  room : length l.from.pairs ≤ room l.to;
}

abbrev pub decreases-loop-key : goal.decreases-loop-key
decreases-loop-key g l = length l.from.pairs
