use Rattle.std.proofs.Common.{◌≡◌, ◌<◌, ◌≤◌, ◌+◌, ◌-◌, ◌++◌, ◌∷◌, List, ℕ, length, take, drop, set, length-set, ap, ◌∙◌, sym, arith}
use Rattle.std.proofs.Math.Seq.{paste}
use Rattle.std.proofs.lemmas.List.{length-take-le}
use Rattle.art_kinds.specs.Edges.{count_below, edges_with, paired}
use Rattle.art_kinds.specs.declared.records.ids.Child.{Child}
use Rattle.art_kinds.specs.declared.records.ids.Edge.{Edge}
use Rattle.art_kinds.proofs.EdgeFills.{in_use, sorted_adds, sorted_more}
use Rattle.art_kinds.proofs.EdgeShifts.{edges_below, edges_with-place, write_among}
use Rattle.art_kinds.proofs.Pairs.{edge, take-both, take-paired, below-paired, paired-with, same-paired}
use Rattle.art_kinds.proofs.records.few.FewChildren.insert.Goals as goal

-- if the bytes and children from the place of a byte on move down by one place, the byte and a child
-- that are written there are one more edge
moved_down : (n : ℕ) (bs : List ℕ) (cs : List Child) (b i : ℕ) (to : Child) (bs' : List ℕ) (cs' : List Child) → n < length bs → length cs ≡ length bs → i ≡ count_below (take n bs) b → i ≤ length (take n bs)
    → bs' ≡ paste bs (i + 1) (drop i bs) (n - i) → cs' ≡ paste cs (i + 1) (drop i cs) (n - i) → take (n + 1) (paired (set bs' i b) (set cs' i to)) ≡ edges_with (take n (paired bs cs)) (edge b to)
moved_down n bs cs b i to bs' cs' lb l is within after after' =
    let es = take n (paired bs cs) in
    let lc : n < length cs = omega (arith, lb, l) in
    let long : length (take n bs) ≡ n = length-take-le n bs (omega (arith, lb)) in
    let same : length (take n cs) ≡ length (take n bs) = length-take-le n cs (omega arith) ∙ sym long in
    let le : i ≤ n = omega (arith, within, long) in
    let at : i ≡ edges_below es b = is ∙ sym (below-paired (take n bs) (take n cs) b same) ∙ ap (λ (t : List Edge). edges_below t b) (take-paired n bs cs) in
    let p = ap (λ (t : List ℕ). take (n + 1) (set t i b)) after ∙ write_among bs i n b le lb in
    let q = ap (λ (t : List Child). take (n + 1) (set t i to)) after' ∙ write_among cs i n to le lc in
    take-both (n + 1) _ _ _ _ p q
    ∙ paired-with (take n bs) (take n cs) i b to same
    ∙ ap (λ (t : List Edge). take i t ++ edge b to ∷ drop i t) (take-paired n bs cs)
    ∙ ap (λ (k : ℕ). take k es ++ edge b to ∷ drop k es) at
    ∙ sym (edges_with-place es (edge b to))

pub invariant_of-self : goal.invariant_of-self
invariant_of-self g c =
    let i = c.self.inside in
    let v = c.self.invariant in
    let es = paired i.bytes i.children in
    let u = in_use i.count g.row.N es es v.sorted in
    let room : length (take i.count es) + 1 ≤ g.row.N = rw c.self.view_is c.requires.room in
    let p = c.place_of-place.result in
    let bs = set c.copy_within.new.self p c.args.byte in
    let cs = set c.copy_within-2.new.self p c.args.to in
    let wide = length-set c.copy_within.new.self p c.args.byte ∙ c.copy_within.ensures.len in
    let long = length-set c.copy_within-2.new.self p c.args.to ∙ c.copy_within-2.ensures.len in
    let same = same-paired i.bytes i.children bs cs wide long (v.long ∙ sym v.wide) in
    let is = moved_down i.count i.bytes i.children c.args.byte p c.args.to c.copy_within.new.self c.copy_within-2.new.self (omega (arith, u, room, v.wide)) (v.long ∙ sym v.wide) c.place_of-place.ensures.count c.place_of-place.ensures.within c.copy_within.ensures.after c.copy_within-2.ensures.after in
    rw c.of.ensures (record {
      sorted = sorted_more i.count g.row.N es (paired bs cs) v.sorted same (edge c.args.byte c.args.to) c.ranges.byte.fits (rw c.self.view_is c.requires.absent) is (omega (arith, u, room));
      wide = wide ∙ v.wide;
      long = long ∙ v.long;
      fits = v.fits;
    })

pub returns : goal.returns
returns g c =
    let i = c.self.inside in
    let v = c.self.invariant in
    let es = paired i.bytes i.children in
    let u = in_use i.count g.row.N es es v.sorted in
    let room : length (take i.count es) + 1 ≤ g.row.N = rw c.self.view_is c.requires.room in
    let p = c.place_of-place.result in
    let bs = set c.copy_within.new.self p c.args.byte in
    let cs = set c.copy_within-2.new.self p c.args.to in
    let wide = length-set c.copy_within.new.self p c.args.byte ∙ c.copy_within.ensures.len in
    let long = length-set c.copy_within-2.new.self p c.args.to ∙ c.copy_within-2.ensures.len in
    let same = same-paired i.bytes i.children bs cs wide long (v.long ∙ sym v.wide) in
    let is = moved_down i.count i.bytes i.children c.args.byte p c.args.to c.copy_within.new.self c.copy_within-2.new.self (omega (arith, u, room, v.wide)) (v.long ∙ sym v.wide) c.place_of-place.ensures.count c.place_of-place.ensures.within c.copy_within.ensures.after c.copy_within-2.ensures.after in
    rw (← c.self.view_is, c.of.ensures) (sorted_adds i.count g.row.N es (paired bs cs) v.sorted same (edge c.args.byte c.args.to) c.ranges.byte.fits (rw c.self.view_is c.requires.absent) is)
