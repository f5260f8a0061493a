use Rattle.std.proofs.Common.{arith}
use Rattle.art_kinds.proofs.Places.{index_adds, index_more, n_lt}
use Rattle.art_kinds.proofs.records.indexed.IndexedChildren.insert.Goals as goal

pub listed : goal.listed
listed c =
    let i = c.self.inside in
    let h = n_lt i.count i.index i.children c.self.invariant c.args.byte c.args.to c.ranges.byte.fits (rw c.self.view_is c.requires.room) (rw c.self.view_is c.requires.absent) in
    omega (arith, h, c.self.invariant.long)

pub bounds-self-inside-place : goal.bounds-self-inside-place
bounds-self-inside-place c =
    let i = c.self.inside in
    n_lt i.count i.index i.children c.self.invariant c.args.byte c.args.to c.ranges.byte.fits (rw c.self.view_is c.requires.room) (rw c.self.view_is c.requires.absent)

pub invariant_of-self : goal.invariant_of-self
invariant_of-self c =
    let i = c.self.inside in
    rw c.of.ensures (index_more i.count i.index i.children c.self.invariant c.args.byte c.args.to c.ranges.byte.fits (rw c.self.view_is c.requires.room) (rw c.self.view_is c.requires.absent))

pub returns : goal.returns
returns c =
    let i = c.self.inside in
    rw c.of.ensures (rw (← c.self.view_is) (index_adds i.count i.index i.children c.self.invariant c.args.byte c.args.to c.ranges.byte.fits (rw c.self.view_is c.requires.room) (rw c.self.view_is c.requires.absent)))
