use Rattle.std.proofs.Common.{◌<◌, ◌≤◌, ◌∙◌, refl, sym, set, take, length-set, arith}
use Rattle.art_kinds.specs.Edges.{count_below, paired}
use Rattle.art_kinds.proofs.EdgeFills.{sorted_redirects, sorted_same}
use Rattle.art_kinds.proofs.Pairs.{redirected, same-paired}
use Rattle.art_kinds.proofs.records.few.FewChildren.redirect.Goals as goal

pub listed : goal.listed
listed g c =
    let i = c.self.inside in
    let v = c.self.invariant in
    let lt : count_below (take i.count i.bytes) c.args.byte < i.count = (redirected i.count i.bytes i.children c.args.byte c.args.to v.sorted.ascends (rw c.self.view_is c.requires)).1 in
    let w : i.count ≤ g.row.N = v.sorted.within in
    omega (arith, c.place_of-place.ensures.count, v.long)

pub bounds-self-inside-place : goal.bounds-self-inside-place
bounds-self-inside-place g c =
    let i = c.self.inside in
    let s = c.self.invariant.sorted in
    let lt : count_below (take i.count i.bytes) c.args.byte < i.count = (redirected i.count i.bytes i.children c.args.byte c.args.to s.ascends (rw c.self.view_is c.requires)).1 in
    let w : i.count ≤ g.row.N = s.within in
    omega (arith, c.place_of-place.ensures.count)

pub invariant_of-self : goal.invariant_of-self
invariant_of-self g c =
    let i = c.self.inside in
    let v = c.self.invariant in
    let p = count_below (take i.count i.bytes) c.args.byte in
    let cs = set i.children p c.args.to in
    let same = same-paired i.bytes i.children i.bytes cs refl (length-set i.children p c.args.to) (v.long ∙ sym v.wide) in
    rw (c.of.ensures, c.place_of-place.ensures.count) (record {
      sorted = sorted_same i.count g.row.N (paired i.bytes i.children) (paired i.bytes cs) v.sorted same c.args.byte c.args.to c.ranges.byte.fits (rw c.self.view_is c.requires) (redirected i.count i.bytes i.children c.args.byte c.args.to v.sorted.ascends (rw c.self.view_is c.requires)).0;
      wide = v.wide;
      long = length-set i.children p c.args.to ∙ v.long;
      fits = v.fits;
    })

pub returns : goal.returns
returns g c =
    let i = c.self.inside in
    let v = c.self.invariant in
    let p = count_below (take i.count i.bytes) c.args.byte in
    let cs = set i.children p c.args.to in
    let same = same-paired i.bytes i.children i.bytes cs refl (length-set i.children p c.args.to) (v.long ∙ sym v.wide) in
    rw (← c.self.view_is, c.of.ensures, c.place_of-place.ensures.count) (sorted_redirects i.count g.row.N (paired i.bytes i.children) (paired i.bytes cs) v.sorted same c.args.byte c.args.to c.ranges.byte.fits (rw c.self.view_is c.requires) (redirected i.count i.bytes i.children c.args.byte c.args.to v.sorted.ascends (rw c.self.view_is c.requires)).0)
