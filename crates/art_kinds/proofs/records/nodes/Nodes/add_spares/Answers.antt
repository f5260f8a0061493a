use Rattle.std.proofs.Common.{rules, arith}
use Rattle.std.proofs.lemmas.Result.{on_ok_weaker}
use Rattle.art_kinds.proofs.Rooms.{figures-room}
use Rattle.art_kinds.proofs.Moving.{stood, stood_nodes, stood-room, enough_for, not_ok, on_err}
use Rattle.art_kinds.specs.Nodes.{Nodes}
use Rattle.art_kinds.proofs.records.nodes.Nodes.add_spares.Goals as goal

pub reserve-requires : goal.reserve-requires
reserve-requires g c = let small = c.if-this-ge-PREFIX_BOUND.false in (search rules, (small, c.self.invariant.fours))

pub reserve-requires-2 : goal.reserve-requires-2
reserve-requires-2 g c = let small = c.if-this-ge-PREFIX_BOUND.false in (search rules, (small, c.self.invariant.sixteens))

pub reserve-requires-3 : goal.reserve-requires-3
reserve-requires-3 g c = let small = c.if-this-ge-PREFIX_BOUND.false in (search rules, (small, c.self.invariant.forty_eights))

pub reserve-requires-4 : goal.reserve-requires-4
reserve-requires-4 g c = let small = c.if-this-ge-PREFIX_BOUND.false in (search rules, (small, c.self.invariant.fulls))

pub returns-in_err-reserve : goal.returns-in_err-reserve
returns-in_err-reserve g c =
    record {
      same = stood_nodes c.self.view_is c.reserve.ensures.grows stood stood stood;
      room = stood-room c.self.view_is c.reserve.ensures.grows stood stood stood;
      fits = not_ok _ c.from_residual.result c.from_residual.ensures.0;
      refused = on_err c.from_residual.result (omega (arith, c.if-count-eq0.false));
    }

pub returns-in_err-reserve-2 : goal.returns-in_err-reserve-2
returns-in_err-reserve-2 g c =
    record {
      same = stood_nodes c.self.view_is c.reserve.ensures.grows c.reserve-2.ensures.grows stood stood;
      room = stood-room c.self.view_is c.reserve.ensures.grows c.reserve-2.ensures.grows stood stood;
      fits = not_ok _ c.from_residual-in_err-reserve-2.result c.from_residual-in_err-reserve-2.ensures.0;
      refused = on_err c.from_residual-in_err-reserve-2.result (omega (arith, c.if-count-eq0.false));
    }

pub returns-in_err-reserve-3 : goal.returns-in_err-reserve-3
returns-in_err-reserve-3 g c =
    record {
      same = stood_nodes c.self.view_is c.reserve.ensures.grows c.reserve-2.ensures.grows c.reserve-3.ensures.grows stood;
      room = stood-room c.self.view_is c.reserve.ensures.grows c.reserve-2.ensures.grows c.reserve-3.ensures.grows stood;
      fits = not_ok _ c.from_residual-in_err-reserve-3.result c.from_residual-in_err-reserve-3.ensures.0;
      refused = on_err c.from_residual-in_err-reserve-3.result (omega (arith, c.if-count-eq0.false));
    }

pub returns-clause-same : goal.returns-clause-same
returns-clause-same g c = stood_nodes c.self.view_is c.reserve.ensures.grows c.reserve-2.ensures.grows c.reserve-3.ensures.grows c.reserve-4.ensures.grows

pub returns-clause-room : goal.returns-clause-room
returns-clause-room g c = stood-room c.self.view_is c.reserve.ensures.grows c.reserve-2.ensures.grows c.reserve-3.ensures.grows c.reserve-4.ensures.grows

pub returns-clause-fits : goal.returns-clause-fits
returns-clause-fits g c =
    let n = c.args.count in
    let a = c.reserve.new.store in
    let b = c.reserve-2.new.store in
    let d = c.reserve-3.new.store in
    let e = c.reserve-4.new.store in
    let f1 =
    enough_for 0 (omega arith) a b.spare n c.used.result c.outgrown.result
    c.used.ensures.count c.reserve.ensures.kind.all
    c.outgrown.ensures.few c.outgrown.ensures.many c.in_ok-reserve-2.ensures.enough in
    let f2 =
    enough_for 1 (omega arith) b d.spare n c.used-2.result c.outgrown-2.result
    c.used-2.ensures.count c.reserve-2.ensures.kind.all
    c.outgrown-2.ensures.few c.outgrown-2.ensures.many c.in_ok-reserve-3.ensures.enough in
    let t : Nodes = record { fours = a; sixteens = b; forty_eights = d; fulls = e } in
    on_ok_weaker c.reserve-4.result (λ enough.
    (let f3 =
    enough_for 2 (omega arith) d e.spare n c.used-3.result c.outgrown-3.result
    c.used-3.ensures.count c.reserve-3.ensures.kind.all
    c.outgrown-3.ensures.few c.outgrown-3.ensures.many enough in
    figures-room t n c.in_ok-reserve.ensures.enough f1 f2 f3)) c.reserve-4.ensures.enough

pub returns-clause-refused : goal.returns-clause-refused
returns-clause-refused g c = on_err c.reserve-4.result (omega (arith, c.if-count-eq0.false))
