use Rattle.std.proofs.Common.{◌≡◌, ◌≤◌, ◌∙◌, ◌++◌, ℕ, List, length, take, drop, replicate, ap, sym, subst, arith}
use Rattle.std.proofs.lemmas.List.{length-append, length-drop, length-replicate, length-take-le, take_at}
use Rattle.art_kinds.specs.Edges.{child_at, Ascends, paired}
use Rattle.art_kinds.specs.declared.records.ids.Child.{Child}
use Rattle.art_kinds.specs.declared.records.ids.Edge.{Edge}
use Rattle.art_kinds.proofs.Pairs.{take-both, take-paired, length-paired}
use Rattle.art_kinds.proofs.records.few.Few.of_few.Goals as goal

-- the edges are those of the other node
same : (n : ℕ) (bs b x : List ℕ) (cs d y : List Child) → n ≤ length bs → n ≤ length cs → b ≡ take n bs → d ≡ take n cs → take n (paired (b ++ x) (d ++ y)) ≡ take n (paired bs cs)
same n bs b x cs d y l m p q =
    take-both n (take n bs) (b ++ x) (take n cs) (d ++ y)
    (take_at b x n (ap (λ (t : List ℕ). length t) p ∙ length-take-le n bs l) ∙ p)
    (take_at d y n (ap (λ (t : List Child). length t) q ∙ length-take-le n cs m) ∙ q)
    ∙ take-paired n bs cs

-- a list of m places with its first n replaced has m places
full : {A : Type 0} (n m : ℕ) (z : A) (b : List A) → n ≤ m → length b ≡ length (take n (replicate m z)) → length (b ++ drop n (replicate m z)) ≡ m
full n m z b l e =
    let r = length-replicate m z in
    omega (arith, e, r, length-append b (drop n (replicate m z)), length-drop n (replicate m z), length-take-le n (replicate m z) (omega (arith, r)))

pub invariant_of-result : goal.invariant_of-result
invariant_of-result g c =
    let i = c.few.inside in
    let v = c.few.invariant in
    let n = i.count in
    let zeros = replicate {A = ℕ} g.row.N 0 in
    let nones = replicate g.row.N c.none-children.result in
    let b = c.copy_from_slice.new.self in
    let d = c.copy_from_slice-2.new.self in
    let w : n ≤ g.row.M = v.sorted.within in
    let is : length c.args.few.now ≡ n = ap (λ (z : List Edge). length z) (sym c.few.view_is) ∙ length-take-le n (paired i.bytes i.children) (omega (arith, v.sorted.long)) in
    let within : n ≤ g.row.N = omega (arith, is, c.requires.few) in
    let e = same n i.bytes b (drop n zeros) i.children d (drop n nones) (omega (arith, v.wide)) (omega (arith, v.long)) c.copy_from_slice.ensures.after c.copy_from_slice-2.ensures.after in
    let wide : length (b ++ drop n zeros) ≡ g.row.N = full n g.row.N 0 b within c.copy_from_slice.ensures.len in
    let long : length (d ++ drop n nones) ≡ g.row.N = full n g.row.N c.none-children.result d within c.copy_from_slice-2.ensures.len in
    record {
      sorted = record {
        within = within;
        long = length-paired (b ++ drop n zeros) (d ++ drop n nones) (long ∙ sym wide) ∙ wide;
        ascends = subst (λ (z : List Edge). Ascends z) (sym e) v.sorted.ascends;
        small = λ k l. ap (λ (z : List Edge). child_at z k) e ∙ v.sorted.small k l;
      };
      wide = wide;
      long = long;
      fits = c.requires.fits;
    }

pub returns : goal.returns
returns g c =
    let i = c.few.inside in
    let v = c.few.invariant in
    let w : i.count ≤ g.row.M = v.sorted.within in
    same i.count i.bytes _ _ i.children _ _ (omega (arith, v.wide)) (omega (arith, v.long)) c.copy_from_slice.ensures.after c.copy_from_slice-2.ensures.after ∙ c.few.view_is
