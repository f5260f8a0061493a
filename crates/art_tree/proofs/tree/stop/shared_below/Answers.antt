use Rattle.std.proofs.Common.{◌≡◌, ◌+◌, ◌≤◌, ℕ, length, drop, take, get_or, ap, sym, subst, ◌∙◌, arith, lit<, length-drop, length-append, ◌∷◌, []}
use Rattle.blart_keys.specs.Bytes.{common}
use Rattle.art_tree.specs.Begins.{Bytes}
use Rattle.art_tree.specs.Leaves.{keys_in}
use Rattle.std.proofs.lemmas.List.{length-take-le}
use Rattle.art_tree.proofs.BeginsLemmas.{common-in_left}
use Rattle.art_tree.proofs.NumberedPairs.Keys.{has_key, key_read}
use Rattle.art_tree.proofs.Ways.Stops.{edge_covers, way_within, start_within, cut_front, shared_from}
use Rattle.art_tree.proofs.Invariant.Soundness.{within_longest}
use Rattle.art_tree.proofs.Ways.WaysDown.{has_edges}
use Rattle.art_tree.proofs.tree.stop.shared_below.Goals as goal

pub end_edge-requires : goal.end_edge-requires
end_edge-requires g c = (lit< tt, has_edges c.requires.way.shape c.args.id c.requires.is)

pub end_under-leaf-requires : goal.end_under-leaf-requires
end_under-leaf-requires g c =
    let w = c.requires.way in
    let keys = keys_in g.K.AsBytes.bytes c.args.leaves.now.pairs in
    (lit< tt, record { keys = keys; root = w.root; shape = w.shape; front = _; covers = edge_covers w c.requires.is c.end_edge.result.byte c.end_edge.ensures.there })

pub read-requires : goal.read-requires
read-requires g c =
    let w = c.requires.way in
    let kb = g.K.AsBytes.bytes in
    let S = c.args.leaves.now.pairs in
    let u = c.end_under-leaf.ensures.ends (keys_in kb S) w.root w.shape _ (edge_covers w c.requires.is c.end_edge.result.byte c.end_edge.ensures.there) in
    has_key kb S c.end_under-leaf.result u.key u.is

pub slice_bounds-front-end : goal.slice_bounds-front-end
slice_bounds-front-end g c =
    let w = c.requires.way in
    let u = c.end_under-leaf.ensures.ends _ w.root w.shape _ (edge_covers w c.requires.is c.end_edge.result.byte c.end_edge.ensures.there) in
    let is = key_read g.K.AsBytes.bytes c.args.leaves.now.pairs c.end_under-leaf.result c.read.ensures.value c.as_bytes.ensures in
    let f = cut_front w c.requires.is c.end_edge.result.byte u is c.depth-depth.ensures in
    sym (length-take-le c.depth-depth.result c.as_bytes.result.now (omega (arith, f.1)))

pub common_len_after-requires : goal.common_len_after-requires
common_len_after-requires g c =
    let w = c.requires.way in
    let u = c.end_under-leaf.ensures.ends _ w.root w.shape _ (edge_covers w c.requires.is c.end_edge.result.byte c.end_edge.ensures.there) in
    let is = key_read g.K.AsBytes.bytes c.args.leaves.now.pairs c.end_under-leaf.result c.read.ensures.value c.as_bytes.ensures in
    let f = cut_front w c.requires.is c.end_edge.result.byte u is c.depth-depth.ensures in
    record { a = subst (λ (z : Bytes). c.args.start ≤ length z) (sym f.0) (start_within w); b = way_within w }

pub overflow_add-len : goal.overflow_add-len
overflow_add-len g c =
    let w = c.requires.way in
    let u = c.end_under-leaf.ensures.ends _ w.root w.shape _ (edge_covers w c.requires.is c.end_edge.result.byte c.end_edge.ensures.there) in
    let is = key_read g.K.AsBytes.bytes c.args.leaves.now.pairs c.end_under-leaf.result c.read.ensures.value c.as_bytes.ensures in
    let f = cut_front w c.requires.is c.end_edge.result.byte u is c.depth-depth.ensures in
    let front = take c.depth-depth.result c.as_bytes.result.now in
    let whole : length front ≡ c.depth-depth.result = length-take-le c.depth-depth.result c.as_bytes.result.now (omega (arith, f.1)) in
    let low : c.args.start ≤ length front = subst (λ (z : Bytes). c.args.start ≤ length z) (sym f.0) (start_within w) in
    let few : length (common (drop c.args.start front) (drop c.args.start c.args.query.now)) ≤ length (drop c.args.start front) = common-in_left (drop c.args.start front) (drop c.args.start c.args.query.now) in
    omega (arith, length-drop c.args.start front, c.common_len_after.ensures, c.depth-depth.type_inv)

pub bounds-front-len : goal.bounds-front-len
bounds-front-len g c =
    let w = c.requires.way in
    let u = c.end_under-leaf.ensures.ends _ w.root w.shape _ (edge_covers w c.requires.is c.end_edge.result.byte c.end_edge.ensures.there) in
    let is = key_read g.K.AsBytes.bytes c.args.leaves.now.pairs c.end_under-leaf.result c.read.ensures.value c.as_bytes.ensures in
    let f = cut_front w c.requires.is c.end_edge.result.byte u is c.depth-depth.ensures in
    let whole : length (take c.depth-depth.result c.as_bytes.result.now) ≡ c.depth-depth.result = length-take-le c.depth-depth.result c.as_bytes.result.now (omega (arith, f.1)) in
    omega (arith, c.if-len-depth.true)

pub returns-then-len-depth-clause-shared : goal.returns-then-len-depth-clause-shared
returns-then-len-depth-clause-shared g c w =
    let u = c.end_under-leaf.ensures.ends _ w.root w.shape _ (edge_covers w c.requires.is c.end_edge.result.byte c.end_edge.ensures.there) in
    let is = key_read g.K.AsBytes.bytes c.args.leaves.now.pairs c.end_under-leaf.result c.read.ensures.value c.as_bytes.ensures in
    let f = cut_front w c.requires.is c.end_edge.result.byte u is c.depth-depth.ensures in
    let e : c.args.start + c.common_len_after.result ≡ c.args.start + length (common (drop c.args.start (w.shape.front_of c.args.id)) (drop c.args.start c.args.query.now)) = ap (λ (z : ℕ). c.args.start + z) (c.common_len_after.ensures ∙ ap (λ (z : Bytes). length (common (drop c.args.start z) (drop c.args.start c.args.query.now))) f.0) in
    shared_from w e (λ l. ap (λ (z : Bytes). get_or z (c.args.start + c.common_len_after.result) 0) f.0)

pub returns-else-len-depth-clause-shared : goal.returns-else-len-depth-clause-shared
returns-else-len-depth-clause-shared g c w =
    let u = c.end_under-leaf.ensures.ends _ w.root w.shape _ (edge_covers w c.requires.is c.end_edge.result.byte c.end_edge.ensures.there) in
    let is = key_read g.K.AsBytes.bytes c.args.leaves.now.pairs c.end_under-leaf.result c.read.ensures.value c.as_bytes.ensures in
    let f = cut_front w c.requires.is c.end_edge.result.byte u is c.depth-depth.ensures in
    let e : c.args.start + c.common_len_after.result ≡ c.args.start + length (common (drop c.args.start (w.shape.front_of c.args.id)) (drop c.args.start c.args.query.now)) = ap (λ (z : ℕ). c.args.start + z) (c.common_len_after.ensures ∙ ap (λ (z : Bytes). length (common (drop c.args.start z) (drop c.args.start c.args.query.now))) f.0) in
    let same_long : c.args.node.now.depth ≡ length (w.shape.front_of c.args.id) = (w.shape.node c.args.id c.args.node.now c.requires.is).depth in
    let over : c.depth-depth.result ≤ c.args.start + c.common_len_after.result = c.if-len-depth.false in
    shared_from w e (λ l. absurd (omega (arith, c.depth-depth.ensures)))

pub returns-then-len-depth-clause-counted : goal.returns-then-len-depth-clause-counted
returns-then-len-depth-clause-counted g c =
    let w = c.requires.way in
    let covers = edge_covers w c.requires.is c.end_edge.result.byte c.end_edge.ensures.there in
    let u = c.end_under-leaf.ensures.ends _ w.root w.shape _ covers in
    let few = c.end_under-leaf.ensures.counted _ w.root w.shape _ u.key covers u.is in
    omega (arith, within_longest g.K.AsBytes.bytes c.args.leaves.now.pairs c.end_under-leaf.result u.key u.is, length-append (w.shape.front_of c.args.id) (c.end_edge.result.byte ∷ []), c.read.ensures.counted)

pub returns-else-len-depth-clause-counted : goal.returns-else-len-depth-clause-counted
returns-else-len-depth-clause-counted g c =
    let w = c.requires.way in
    let covers = edge_covers w c.requires.is c.end_edge.result.byte c.end_edge.ensures.there in
    let u = c.end_under-leaf.ensures.ends _ w.root w.shape _ covers in
    let few = c.end_under-leaf.ensures.counted _ w.root w.shape _ u.key covers u.is in
    omega (arith, within_longest g.K.AsBytes.bytes c.args.leaves.now.pairs c.end_under-leaf.result u.key u.is, length-append (w.shape.front_of c.args.id) (c.end_edge.result.byte ∷ []), c.read.ensures.counted)
