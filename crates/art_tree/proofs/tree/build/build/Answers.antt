use Rattle.std.proofs.Common.{◌≡◌, ◌+◌, ◌<◌, List, length, Some, None, ap, sym, subst, ◌∙◌, length-append, lit<, arith, rules}
use Rattle.art_tree.specs.Leaves.{keys_in, number_after, first_number}
use Rattle.art_kinds.specs.Nodes.{at}
use Rattle.art_kinds.specs.declared.records.ids.Child.TheVariants.{Leaf}
use Rattle.art_tree.specs.declared.tree.build.LooseEdge.{LooseEdge}
use Rattle.art_tree.specs.Calls.Building.{IsPart, IsTurn, count_after}
use Rattle.art_tree.proofs.NumberedPairs.Keys.{key_read}
use Rattle.art_tree.proofs.NumberedPairs.Turns.{none_begins, turn_last, turn_next, after_has, later, in_key, in_next, rises, first_least, counts_first, counts_down}
use Rattle.art_tree.proofs.Invariant.Built.{part_first, part_at, part_next, shape_closed}
use Rattle.art_tree.proofs.Invariant.Soundness.{sound_empty}
use Rattle.art_tree.proofs.tree.build.build.Goals as goal
use Rattle.art_rows.proofs.CallerLemmas.{no_first}

pub over-init : goal.over-init
over-init g c =
    let kb = g.K.AsBytes.bytes in
    let S = c.args.leaves.now.pairs in
    let first : first_number S ≡ Some c.in-Some.first = sym c.first.ensures ∙ c.in-Some.is in
    let f = first_least kb S c.requires.content c.law.ensures.distinct c.in-Some.first first in
    let none : length c.args.loose.now.items ≡ 0 = ap (λ (z : List LooseEdge). length z) c.requires.empty in
    let count : length S ≡ count_after S c.in-Some.first + 1 = counts_first S c.in-Some.first first in
    let r = c.requires.room in
    let p = c.requires.places in
    record {
      part = (f.0, f.1, subst (λ (z : List LooseEdge). IsPart g.row.P (keys_in kb S) (at c.args.nodes.now) f.0 z (length f.0) (Leaf c.in-Some.first)) (sym c.requires.empty) (part_first (keys_in kb S) (at c.args.nodes.now) f.0 (none_begins kb S c.requires.content c.law.ensures.distinct) c.in-Some.first f.1 c.requires.none f.2));
      room = omega arith;
      places = omega arith;
    }

pub returns-in_default : goal.returns-in_default
returns-in_default g c = sound_empty g.K.AsBytes.bytes c.args.leaves.now c.args.nodes.now (no_first c.args.leaves.now.pairs (sym c.first.ensures ∙ c.in_default.is)) c.requires.none

pub close-requires : goal.close-requires
close-requires g c =
    let kb = g.K.AsBytes.bytes in
    let S = c.args.leaves.now.pairs in
    let key = c.as_bytes-key.result.now in
    let is = key_read kb S c.over.last c.read.ensures.value c.as_bytes-key.ensures in
    let part = part_at (keys_in kb S) (at c.over.nodes) c.over.loose.items c.over.last key c.over.invariant.part is in
    let none : number_after S c.over.last ≡ None = sym c.next_from.ensures ∙ c.in_default-next_from.is in
    let r = c.over.invariant.room in
    (lit< tt, ((keys_in kb S, turn_last kb S c.requires.content c.law.ensures.distinct c.over.last key is none, part), omega arith))

pub returns-in_default-next_from : goal.returns-in_default-next_from
returns-in_default-next_from g c =
    let kb = g.K.AsBytes.bytes in
    let S = c.args.leaves.now.pairs in
    let key = c.as_bytes-key.result.now in
    let is = key_read kb S c.over.last c.read.ensures.value c.as_bytes-key.ensures in
    let part = part_at (keys_in kb S) (at c.over.nodes) c.over.loose.items c.over.last key c.over.invariant.part is in
    let none : number_after S c.over.last ≡ None = sym c.next_from.ensures ∙ c.in_default-next_from.is in
    record {
      content = c.requires.content;
      shape = shape_closed (keys_in kb S) (at c.close.new.nodes) key c.close.result c.close.new.loose.items (c.close.ensures.part (keys_in kb S) (turn_last kb S c.requires.content c.law.ensures.distinct c.over.last key is none) part);
    }

pub read-requires-in-over : goal.read-requires-in-over
read-requires-in-over g c =
    let kb = g.K.AsBytes.bytes in
    let S = c.args.leaves.now.pairs in
    let i = c.over.invariant in
    after_has kb S c.requires.content c.law.ensures.distinct c.over.last i.part.0 i.part.1 c.in-Some-next_from.next (sym c.next_from.ensures ∙ c.in-Some-next_from.is)

pub bounds-key-depth : goal.bounds-key-depth
bounds-key-depth g c =
    let kb = g.K.AsBytes.bytes in
    let S = c.args.leaves.now.pairs in
    let is = key_read kb S c.over.last c.read.ensures.value c.as_bytes-key.ensures in
    let next = key_read kb S c.in-Some-next_from.next c.read-in-over.ensures.value c.as_bytes.ensures in
    in_key kb S c.requires.content c.law.ensures.distinct c.over.last c.as_bytes-key.result.now is c.in-Some-next_from.next c.as_bytes.result.now (sym c.next_from.ensures ∙ c.in-Some-next_from.is) next c.common_len-depth.result c.common_len-depth.ensures

pub overflow_add-depth : goal.overflow_add-depth
overflow_add-depth g c =
    let kb = g.K.AsBytes.bytes in
    let S = c.args.leaves.now.pairs in
    let is = key_read kb S c.over.last c.read.ensures.value c.as_bytes-key.ensures in
    let next = key_read kb S c.in-Some-next_from.next c.read-in-over.ensures.value c.as_bytes.ensures in
    let lt : c.common_len-depth.result < length c.as_bytes-key.result.now = in_key kb S c.requires.content c.law.ensures.distinct c.over.last c.as_bytes-key.result.now is c.in-Some-next_from.next c.as_bytes.result.now (sym c.next_from.ensures ∙ c.in-Some-next_from.is) next c.common_len-depth.result c.common_len-depth.ensures in
    search (rules, lt)

pub close-to-requires : goal.close-to-requires
close-to-requires g c =
    let kb = g.K.AsBytes.bytes in
    let S = c.args.leaves.now.pairs in
    let key = c.as_bytes-key.result.now in
    let is = key_read kb S c.over.last c.read.ensures.value c.as_bytes-key.ensures in
    let next = key_read kb S c.in-Some-next_from.next c.read-in-over.ensures.value c.as_bytes.ensures in
    let part = part_at (keys_in kb S) (at c.over.nodes) c.over.loose.items c.over.last key c.over.invariant.part is in
    let r = c.over.invariant.room in
    (lit< tt, ((keys_in kb S, turn_next kb S c.requires.content c.law.ensures.distinct c.over.last key is c.in-Some-next_from.next c.as_bytes.result.now (sym c.next_from.ensures ∙ c.in-Some-next_from.is) next c.common_len-depth.result c.common_len-depth.ensures, part), omega arith))

pub push_reserved-requires : goal.push_reserved-requires
push_reserved-requires g c =
    let p = c.over.invariant.places in
    let fewer = c.close-to.ensures.fewer in
    let capacity = c.close-to.ensures.capacity in
    let all : c.close-to.new.loose.len ≡ length c.close-to.new.loose.items = c.close-to.new.loose.ok.0 in
    omega arith

pub over-smaller : goal.over-smaller
over-smaller g c =
    let S = c.args.leaves.now.pairs in
    let d = counts_down S c.over.last c.in-Some-next_from.next c.law.ensures.distinct (sym c.next_from.ensures ∙ c.in-Some-next_from.is) in
    omega arith

pub over-preserved : goal.over-preserved
over-preserved g c =
    let kb = g.K.AsBytes.bytes in
    let S = c.args.leaves.now.pairs in
    let key = c.as_bytes-key.result.now in
    let q = c.as_bytes.result.now in
    let depth = c.common_len-depth.result in
    let after : number_after S c.over.last ≡ Some c.in-Some-next_from.next = sym c.next_from.ensures ∙ c.in-Some-next_from.is in
    let is = key_read kb S c.over.last c.read.ensures.value c.as_bytes-key.ensures in
    let next : keys_in kb S c.in-Some-next_from.next ≡ Some q = key_read kb S c.in-Some-next_from.next c.read-in-over.ensures.value c.as_bytes.ensures in
    let part = part_at (keys_in kb S) (at c.over.nodes) c.over.loose.items c.over.last key c.over.invariant.part is in
    let turn : IsTurn (keys_in kb S) c.over.last key (depth + 1) = turn_next kb S c.requires.content c.law.ensures.distinct c.over.last key is c.in-Some-next_from.next q after next depth c.common_len-depth.ensures in
    let closed : IsPart g.row.P (keys_in kb S) (at c.close-to.new.nodes) key c.close-to.new.loose.items (depth + 1) c.close-to.result = c.close-to.ensures.part (keys_in kb S) turn part in
    let pushed = part_next (keys_in kb S) (at c.close-to.new.nodes) key (none_begins kb S c.requires.content c.law.ensures.distinct) c.close-to.new.loose.items depth c.close-to.result closed q c.in-Some-next_from.next next c.common_len-depth.ensures
    (in_key kb S c.requires.content c.law.ensures.distinct c.over.last key is c.in-Some-next_from.next q after next depth c.common_len-depth.ensures)
    (in_next kb S c.requires.content c.law.ensures.distinct c.over.last key is c.in-Some-next_from.next q after next depth c.common_len-depth.ensures)
    (rises kb S c.requires.content c.law.ensures.distinct c.over.last key is c.in-Some-next_from.next q after next depth c.common_len-depth.ensures)
    (later kb S c.requires.content c.law.ensures.distinct c.over.last key is c.in-Some-next_from.next q after next) in
    let d = counts_down S c.over.last c.in-Some-next_from.next c.law.ensures.distinct after in
    let r = c.over.invariant.room in
    let p = c.over.invariant.places in
    let one = c.close-to.ensures.room in
    let fewer = c.close-to.ensures.fewer in
    let capacity = c.close-to.ensures.capacity in
    let long : length c.push_reserved.new.self.items ≡ length c.close-to.new.loose.items + 1 = ap (λ (z : List LooseEdge). length z) c.push_reserved.ensures.items ∙ length-append c.close-to.new.loose.items _ in
    record {
      part = (q, next, subst (λ (z : List LooseEdge). IsPart g.row.P (keys_in kb S) (at c.close-to.new.nodes) q z (length q) (Leaf c.in-Some-next_from.next)) (sym c.push_reserved.ensures.items) pushed);
      room = omega arith;
      places = (let x = c.push_reserved.ensures.capacity in omega arith);
    }
