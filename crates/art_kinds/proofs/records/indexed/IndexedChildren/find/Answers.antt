use Rattle.std.proofs.Common.{◌≡◌, ◌<◌, length, arith, sym, ap, ◌∙◌, Some, get_or}
use Rattle.std.proofs.lemmas.List.{get_or_default}
use Rattle.art_kinds.specs.declared.records.ids.Child.TheVariants.{Leaf}
use Rattle.art_kinds.proofs.Places.{child_at-index, under-some, under-none}
use Rattle.art_kinds.proofs.records.indexed.IndexedChildren.find.Goals as goal

pub returns-then-place-lt48 : goal.returns-then-place-lt48
returns-then-place-lt48 c =
    let i = c.self.inside in
    let v = c.self.invariant in
    let b = c.args.byte in
    let small : b < length i.index = omega (arith, c.ranges.byte.fits, v.wide) in
    let e : get_or i.index b 48 ≡ get_or i.index b 0 = get_or_default i.index b 48 0 small in
    let lt : get_or i.index b 0 < 48 = c.if-place-lt48.true in
    let f : get_or i.children (get_or i.index b 0) c.index-self-place.result ≡ get_or i.children (get_or i.index b 0) (Leaf 0) = get_or_default i.children (get_or i.index b 0) _ (Leaf 0) (omega (arith, lt, v.long)) in
    rw c.child.ensures (rw (← c.self.view_is) (sym (child_at-index i.count i.index i.children v b ∙ rw e (under-some i.children (get_or i.index b 0) lt) ∙ ap Some (sym f))))

pub returns-else-place-lt48 : goal.returns-else-place-lt48
returns-else-place-lt48 c =
    let i = c.self.inside in
    let v = c.self.invariant in
    let b = c.args.byte in
    let small : b < length i.index = omega (arith, c.ranges.byte.fits, v.wide) in
    let e : get_or i.index b 48 ≡ get_or i.index b 0 = get_or_default i.index b 48 0 small in
    rw (← c.self.view_is) (sym (child_at-index i.count i.index i.children v b ∙ rw e (under-none i.children (get_or i.index b 0) c.if-place-lt48.false)))
