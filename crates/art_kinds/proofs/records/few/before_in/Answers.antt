use Rattle.std.specs.Prelude.{ltb}
use Rattle.std.proofs.Common.{◌≡◌, ◌≤◌, ◌∙◌, suc, List, drop, length, get_or, Some, true, false, refl, ap, sym, arith, add-one}
use Rattle.std.proofs.lemmas.List.{drop_all}
use Rattle.std.proofs.lemmas.Bool.{lt-ltb, le-ltb}
use Rattle.art_kinds.specs.Edges.{before, paired}
use Rattle.art_kinds.specs.declared.records.ids.Child.TheVariants.{Leaf}
use Rattle.art_kinds.specs.declared.records.ids.Child.{Child}
use Rattle.art_kinds.specs.declared.records.ids.Edge.{Edge}
use Rattle.art_kinds.proofs.EdgeNexts.{laid}
use Rattle.art_kinds.proofs.Pairs.{drop-paired, length-paired, edge, laid-later}
use Rattle.art_kinds.proofs.records.few.before_in.Goals as goal

pub returns-then-byte-bytes : goal.returns-then-byte-bytes
returns-then-byte-bytes c =
    let bs = c.args.bytes.now in
    let i = c.loop-i.i in
    let e = drop-paired bs c.args.children.now i 0 (Leaf 0) c.loop-i-test.true c.requires in
    let t : ltb (get_or bs i 0) c.args.byte ≡ false = le-ltb (get_or bs i 0) c.args.byte c.if-byte-bytes.true in
    sym (c.loop-i.invariant ∙ ap (λ (z : List Edge). laid (before z c.args.byte) c.loop-i.found) e ∙ rw t refl)

pub loop-i-preserved : goal.loop-i-preserved
loop-i-preserved c =
    let bs = c.args.bytes.now in
    let p = paired c.args.bytes.now c.args.children.now in
    let i = c.loop-i.i in
    let r = c.index-children-i.result in
    let e = drop-paired bs c.args.children.now i 0 r c.loop-i-test.true c.requires in
    let t : ltb (get_or bs i 0) c.args.byte ≡ true = lt-ltb (get_or bs i 0) c.args.byte c.if-byte-bytes.false in
    let x = before (drop (suc i) p) c.args.byte in
    rw (add-one, c.child.ensures) (c.loop-i.invariant ∙ ap (λ (z : List Edge). laid (before z c.args.byte) c.loop-i.found) e ∙ rw t (laid-later x (edge (get_or bs i 0) (get_or c.args.children.now i r)) c.loop-i.found ∙ ap (λ (z : Child). laid x (Some (edge (get_or bs i 0) z))) (sym c.index-children-i.is)))

pub returns : goal.returns
returns c =
    let p = paired c.args.bytes.now c.args.children.now in
    let l = length-paired c.args.bytes.now c.args.children.now c.requires in
    let past : length p ≤ c.loop-i.i = omega (arith, l, c.loop-i-test.false) in
    sym (c.loop-i.invariant ∙ ap (λ (z : List Edge). laid (before z c.args.byte) c.loop-i.found) (drop_all c.loop-i.i p past))
