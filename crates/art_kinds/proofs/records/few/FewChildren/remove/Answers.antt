use Rattle.std.proofs.Common.{◌≡◌, ℕ, suc, ◌+◌, ◌-◌, ◌<◌, ◌≤◌, ◌++◌, List, IsSome, length, take, drop, ap, ◌∙◌, sym, arith}
use Rattle.std.proofs.Math.Seq.{paste}
use Rattle.std.proofs.lemmas.List.{length-take-le}
use Rattle.art_kinds.specs.Edges.{child_at, Ascends, count_below, edges_without, paired}
use Rattle.art_kinds.specs.declared.records.ids.Child.{Child}
use Rattle.art_kinds.specs.declared.records.ids.Child.TheVariants.{Leaf}
use Rattle.art_kinds.specs.declared.records.ids.Edge.{Edge}
use Rattle.art_kinds.proofs.EdgeFills.{sorted_drops, sorted_less}
use Rattle.art_kinds.proofs.EdgeShifts.{edges_below, edges_without-place, close_among}
use Rattle.art_kinds.proofs.Pairs.{take-both, take-paired, below-paired, paired-without, redirected, same-paired}
use Rattle.art_kinds.proofs.records.few.FewChildren.remove.Goals as goal

module _ (n : ℕ) (bs : List ℕ) (cs : List Child) (b i : ℕ) (a : Ascends (take n (paired bs cs))) (some : IsSome (child_at (take n (paired bs cs)) b)) (is : i ≡ count_below (take n bs) b) where
  -- a byte that has an edge has its place among the first n
  within : i < n
  within = omega (arith, is, (redirected n bs cs b (Leaf 0) a some).1)

  -- if the bytes and children after it move up by one place, its edge is removed
  moved_up : (bs' : List ℕ) (cs' : List Child) → n ≤ length bs → length cs ≡ length bs → bs' ≡ paste bs i (drop (i + 1) bs) (n - (i + 1)) → cs' ≡ paste cs i (drop (i + 1) cs) (n - (i + 1))
      → take (n - 1) (paired bs' cs') ≡ edges_without (take n (paired bs cs)) b
  moved_up bs' cs' lb l after after' =
      let es = take n (paired bs cs) in
      let lc : n ≤ length cs = omega (arith, lb, l) in
      let same : length (take n cs) ≡ length (take n bs) = length-take-le n cs lc ∙ sym (length-take-le n bs lb) in
      let at : i ≡ edges_below es b = is ∙ sym (below-paired (take n bs) (take n cs) b same) ∙ ap (λ (t : List Edge). edges_below t b) (take-paired n bs cs) in
      let one : i + 1 ≡ suc i = omega arith in
      let p = ap (λ (t : List ℕ). take (n - 1) t) after ∙ close_among bs i n within lb ∙ ap (λ (k : ℕ). take i (take n bs) ++ drop k (take n bs)) one in
      let q = ap (λ (t : List Child). take (n - 1) t) after' ∙ close_among cs i n within lc ∙ ap (λ (k : ℕ). take i (take n cs) ++ drop k (take n cs)) one in
      take-both (n - 1) _ _ _ _ p q
      ∙ paired-without (take n bs) (take n cs) i same
      ∙ ap (λ (t : List Edge). take i t ++ drop (suc i) t) (take-paired n bs cs)
      ∙ ap (λ (k : ℕ). take k es ++ drop (suc k) es) at
      ∙ sym (edges_without-place es b a some).0

pub copy_within-requires-clause-start_le_end : goal.copy_within-requires-clause-start_le_end
copy_within-requires-clause-start_le_end g c =
    let i = c.self.inside in
    let lt = within i.count i.bytes i.children c.args.byte c.place_of-place.result c.self.invariant.sorted.ascends (rw c.self.view_is c.requires) c.place_of-place.ensures.count in
    omega (arith, lt)

pub copy_within-requires-2-clause-start_le_end : goal.copy_within-requires-2-clause-start_le_end
copy_within-requires-2-clause-start_le_end g c =
    let i = c.self.inside in
    let lt = within i.count i.bytes i.children c.args.byte c.place_of-place.result c.self.invariant.sorted.ascends (rw c.self.view_is c.requires) c.place_of-place.ensures.count in
    omega (arith, lt)

pub invariant_of-self : goal.invariant_of-self
invariant_of-self g c =
    let i = c.self.inside in
    let v = c.self.invariant in
    let w : i.count ≤ g.row.N = v.sorted.within in
    let bs = c.copy_within.new.self in
    let cs = c.copy_within-2.new.self in
    let long = v.long ∙ sym v.wide in
    let same = same-paired i.bytes i.children bs cs c.copy_within.ensures.len c.copy_within-2.ensures.len long in
    let is = moved_up i.count i.bytes i.children c.args.byte c.place_of-place.result v.sorted.ascends (rw c.self.view_is c.requires) c.place_of-place.ensures.count bs cs (omega (arith, v.wide)) long c.copy_within.ensures.after c.copy_within-2.ensures.after in
    record {
      sorted = sorted_less i.count g.row.N (paired i.bytes i.children) (paired bs cs) v.sorted same c.args.byte (rw c.self.view_is c.requires) is;
      wide = c.copy_within.ensures.len ∙ v.wide;
      long = c.copy_within-2.ensures.len ∙ v.long;
      fits = v.fits;
    }

pub returns : goal.returns
returns g c =
    let i = c.self.inside in
    let v = c.self.invariant in
    let w : i.count ≤ g.row.N = v.sorted.within in
    let bs = c.copy_within.new.self in
    let cs = c.copy_within-2.new.self in
    let long = v.long ∙ sym v.wide in
    let same = same-paired i.bytes i.children bs cs c.copy_within.ensures.len c.copy_within-2.ensures.len long in
    let is = moved_up i.count i.bytes i.children c.args.byte c.place_of-place.result v.sorted.ascends (rw c.self.view_is c.requires) c.place_of-place.ensures.count bs cs (omega (arith, v.wide)) long c.copy_within.ensures.after c.copy_within-2.ensures.after in
    rw (← c.self.view_is) (sorted_drops i.count g.row.N (paired i.bytes i.children) (paired bs cs) v.sorted same c.args.byte (rw c.self.view_is c.requires) is)
