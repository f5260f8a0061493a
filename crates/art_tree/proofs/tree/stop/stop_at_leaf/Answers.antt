use Rattle.std.proofs.Common.{refl, arith}
use Rattle.art_tree.proofs.BeginsLemmas.{common-in_left}
use Rattle.art_tree.proofs.NumberedPairs.Keys.{has_key, key_read}
use Rattle.art_tree.proofs.Ways.Stops.{leaf_at, start_in_key, way_within, len_at_leaf, same_at_leaf, shorter_at_leaf, longer_at_leaf, leaves_at_leaf}
use Rattle.art_tree.proofs.tree.stop.stop_at_leaf.Goals as goal

pub read-requires : goal.read-requires
read-requires g c = let l = leaf_at c.requires in has_key g.K.AsBytes.bytes c.args.leaves.now.pairs c.args.id l.key l.is

pub common_len_after-requires : goal.common_len_after-requires
common_len_after-requires g c =
    let is = key_read g.K.AsBytes.bytes c.args.leaves.now.pairs c.args.id c.read.ensures.value c.as_bytes-key.ensures in
    record { a = start_in_key c.requires is; b = way_within c.requires }

pub overflow_add-depth : goal.overflow_add-depth
overflow_add-depth g c =
    let is = key_read g.K.AsBytes.bytes c.args.leaves.now.pairs c.args.id c.read.ensures.value c.as_bytes-key.ensures in
    let len = len_at_leaf c.requires is c.common_len_after.ensures in
    omega (arith, common-in_left c.as_bytes-key.result.now c.args.query.now, c.as_bytes-key.type_inv)

pub returns-then-depth-query-clause-stop : goal.returns-then-depth-query-clause-stop
returns-then-depth-query-clause-stop g c =
    let is = key_read g.K.AsBytes.bytes c.args.leaves.now.pairs c.args.id c.read.ensures.value c.as_bytes-key.ensures in
    same_at_leaf c.requires is c.common_len_after.ensures c.if-depth-query.true c.if-depth-key.true

pub returns-else-depth-query-clause-stop : goal.returns-else-depth-query-clause-stop
returns-else-depth-query-clause-stop g c =
    let is = key_read g.K.AsBytes.bytes c.args.leaves.now.pairs c.args.id c.read.ensures.value c.as_bytes-key.ensures in
    shorter_at_leaf c.requires is c.common_len_after.ensures c.if-depth-query.false c.if-depth-key.true

pub returns-then-depth-query-2-clause-stop : goal.returns-then-depth-query-2-clause-stop
returns-then-depth-query-2-clause-stop g c =
    let is = key_read g.K.AsBytes.bytes c.args.leaves.now.pairs c.args.id c.read.ensures.value c.as_bytes-key.ensures in
    longer_at_leaf c.requires is c.common_len_after.ensures c.if-depth-query-2.true c.if-depth-key.false

pub bounds-key-depth : goal.bounds-key-depth
bounds-key-depth g c =
    let is = key_read g.K.AsBytes.bytes c.args.leaves.now.pairs c.args.id c.read.ensures.value c.as_bytes-key.ensures in
    let len = len_at_leaf c.requires is c.common_len_after.ensures in
    omega (arith, common-in_left c.as_bytes-key.result.now c.args.query.now, c.if-depth-key.false)

pub returns-clause-stop : goal.returns-clause-stop
returns-clause-stop g c =
    let is = key_read g.K.AsBytes.bytes c.args.leaves.now.pairs c.args.id c.read.ensures.value c.as_bytes-key.ensures in
    leaves_at_leaf c.requires is c.common_len_after.ensures c.if-depth-query-2.false c.if-depth-key.false

pub returns-clause-at : goal.returns-clause-at
returns-clause-at g c = (refl, omega arith, tt)
