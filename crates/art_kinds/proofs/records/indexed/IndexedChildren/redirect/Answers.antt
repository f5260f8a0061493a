use Rattle.std.proofs.Common.{arith}
use Rattle.art_kinds.proofs.Places.{place_lt, place_is, index_redirects, index_same}
use Rattle.art_kinds.proofs.records.indexed.IndexedChildren.redirect.Goals as goal

pub listed : goal.listed
listed c =
    let i = c.self.inside in
    let v = c.self.invariant in
    let h = place_lt i.count i.index i.children v c.args.byte c.args.to c.ranges.byte.fits (rw c.self.view_is c.requires) in
    let e = place_is i.count i.index i.children v c.args.byte c.args.to c.ranges.byte.fits (rw c.self.view_is c.requires) in
    omega (arith, e, h, v.long)

pub bounds-self-inside-place : goal.bounds-self-inside-place
bounds-self-inside-place c =
    let i = c.self.inside in
    let v = c.self.invariant in
    let h = place_lt i.count i.index i.children v c.args.byte c.args.to c.ranges.byte.fits (rw c.self.view_is c.requires) in
    let e = place_is i.count i.index i.children v c.args.byte c.args.to c.ranges.byte.fits (rw c.self.view_is c.requires) in
    omega (arith, e, h)

pub invariant_of-self : goal.invariant_of-self
invariant_of-self c =
    let i = c.self.inside in
    rw c.of.ensures (index_same i.count i.index i.children c.self.invariant c.args.byte c.args.to c.ranges.byte.fits (rw c.self.view_is c.requires))

pub returns : goal.returns
returns c =
    let i = c.self.inside in
    rw c.of.ensures (rw (← c.self.view_is) (index_redirects i.count i.index i.children c.self.invariant c.args.byte c.args.to c.ranges.byte.fits (rw c.self.view_is c.requires)))
