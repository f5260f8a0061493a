use Rattle.std.proofs.Common.{◌≡◌, ◌<◌, ◌≤◌}
use Rattle.art_rows.specs.Rows.{index_in}
use Rattle.art_rows.proofs.row.index_of_half.Given as goal

abbrev pub invariant-loop-index : goal.invariant-loop-index
invariant-loop-index l = record { early : l.index ≤ index_in l.low l.number → l.at ≡ 0; late : index_in l.low l.number < l.index → l.at ≡ index_in l.low l.number }
