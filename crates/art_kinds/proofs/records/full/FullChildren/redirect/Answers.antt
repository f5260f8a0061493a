use Rattle.std.proofs.Common.{◌<◌, Some, length, arith}
use Rattle.std.proofs.lemmas.List.{length-set}
use Rattle.art_kinds.proofs.Tables.{table_redirects, filled-same}
use Rattle.art_kinds.proofs.records.full.FullChildren.redirect.Goals as goal

pub invariant_of-self : goal.invariant_of-self
invariant_of-self c =
    let i = c.self.inside in
    let t = i.children in
    let b = c.args.byte in
    let l : b < length t = omega (arith, c.self.invariant.wide, c.ranges.byte.fits) in
    rw c.of.ensures (filled-same t _ i.count b c.args.to (length-set t b (Some c.args.to)) c.self.invariant (table_redirects t b l c.args.to (rw c.self.view_is c.requires)))

pub returns : goal.returns
returns c =
    let i = c.self.inside in
    let t = i.children in
    let b = c.args.byte in
    let l : b < length t = omega (arith, c.self.invariant.wide, c.ranges.byte.fits) in
    rw c.of.ensures (rw (← c.self.view_is) (table_redirects t b l c.args.to (rw c.self.view_is c.requires)))
