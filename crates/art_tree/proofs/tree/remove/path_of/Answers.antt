use Rattle.std.proofs.Common.{sym}
use Rattle.art_tree.proofs.BeginsLemmas.{Begins-itself}
use Rattle.art_tree.proofs.NumberedPairs.Keys.{key_read}
use Rattle.art_tree.proofs.tree.remove.path_of.Goals as goal

pub unreachable-requires : goal.unreachable-requires
unreachable-requires g c = c.in-None.ensures.found c.args.id.now c.as_bytes.result.now (key_read g.K.AsBytes.bytes c.args.leaves.now.pairs c.args.id.now c.read.ensures.value c.as_bytes.ensures) (Begins-itself c.as_bytes.result.now)

pub returns-clause-same : goal.returns-clause-same
returns-clause-same g c = sym (c.in-Some.ensures.found.0.only c.args.id.now c.as_bytes.result.now (key_read g.K.AsBytes.bytes c.args.leaves.now.pairs c.args.id.now c.read.ensures.value c.as_bytes.ensures) (Begins-itself c.as_bytes.result.now))
