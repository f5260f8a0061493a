-- The edges behind a reference.
use Rattle.std.specs.Prelude.{List}
use Rattle.art_kinds.specs.declared.records.ids.Edge.{Edge}
use Rattle.art_kinds.specs.declared.records.nodes.EdgesRef.{EdgesRef}
use Rattle.art_kinds.specs.declared.records.nodes.EdgesRef.TheVariants.{Four, Sixteen, FortyEight, Full}

abbrev pub edges_of : EdgesRef → List Edge
edges_of (Four r) = r.now
edges_of (Sixteen r) = r.now
edges_of (FortyEight r) = r.now
edges_of (Full r) = r.now
