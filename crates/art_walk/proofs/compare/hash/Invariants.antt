use Rattle.std.proofs.Common.{◌≡◌, ◌++◌, length}
use Rattle.std.specs.List.{flat_map, fold}
use Rattle.art_walk.proofs.compare.hash.Given as goal

abbrev pub invariant-loop-key : goal.invariant-loop-key
invariant-loop-key g l =
    let words = flat_map (λ (p : g.row.K.Denot × g.row.V.Denot). g.K.Hash.hash_input p.0 ++ g.V.Hash.hash_input p.1) in
    fold g.H.Hasher.write l.state (words l.walk) ≡ fold g.H.Hasher.write l.initial.state (words l.initial.walk)

abbrev pub decreases-loop-key : goal.decreases-loop-key
decreases-loop-key g l = length l.walk
