use Rattle.std.specs.Prelude.{ltb}
use Rattle.std.proofs.Common.{◌≡◌, ◌≤◌, ◌∙◌, List, length, get_or, Some, true, false, refl, ap, sym, arith, add-one}
use Rattle.std.proofs.lemmas.List.{drop_all}
use Rattle.std.proofs.lemmas.Bool.{lt-ltb, le-ltb}
use Rattle.art_kinds.specs.Edges.{after, paired}
use Rattle.art_kinds.specs.declared.records.ids.Child.TheVariants.{Leaf}
use Rattle.art_kinds.specs.declared.records.ids.Child.{Child}
use Rattle.art_kinds.specs.declared.records.ids.Edge.{Edge}
use Rattle.art_kinds.proofs.Pairs.{drop-paired, length-paired, edge}
use Rattle.art_kinds.proofs.records.few.after_in.Goals as goal

pub returns-then-byte-bytes : goal.returns-then-byte-bytes
returns-then-byte-bytes c =
    let bs = c.args.bytes.now in
    let i = c.loop-i.i in
    let e = drop-paired bs c.args.children.now i 0 c.index-children-i.result c.loop-i-test.true c.requires in
    let t : ltb c.args.byte (get_or bs i 0) ≡ true = lt-ltb c.args.byte (get_or bs i 0) c.if-byte-bytes.true in
    rw c.child.ensures (sym (c.loop-i.invariant ∙ ap (λ (z : List Edge). after z c.args.byte) e ∙ rw t (ap (λ (z : Child). Some (edge (get_or bs i 0) z)) (sym c.index-children-i.is))))

pub loop-i-preserved : goal.loop-i-preserved
loop-i-preserved c =
    let bs = c.args.bytes.now in
    let i = c.loop-i.i in
    let e = drop-paired bs c.args.children.now i 0 (Leaf 0) c.loop-i-test.true c.requires in
    let t : ltb c.args.byte (get_or bs i 0) ≡ false = le-ltb c.args.byte (get_or bs i 0) c.if-byte-bytes.false in
    rw add-one (c.loop-i.invariant ∙ ap (λ (z : List Edge). after z c.args.byte) e ∙ rw t refl)

pub returns : goal.returns
returns c =
    let p = paired c.args.bytes.now c.args.children.now in
    let l = length-paired c.args.bytes.now c.args.children.now c.requires in
    let past : length p ≤ c.loop-i.i = omega (arith, l, c.loop-i-test.false) in
    sym (c.loop-i.invariant ∙ ap (λ (z : List Edge). after z c.args.byte) (drop_all c.loop-i.i p past))
