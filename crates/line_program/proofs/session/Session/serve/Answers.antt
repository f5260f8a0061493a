use Rattle.std.proofs.Common.{arith, length-drop}
use Rattle.std.proofs.lemmas.Result.{err_from_is_err_and}
use Rattle.line_program.proofs.Stepping.{serves_more, serves_stops, flushed}
use Rattle.line_program.specs.Session.{state_of}
use Rattle.line_program.proofs.session.Session.serve.Goals as goal

pub returns-in_err-done-clause-served : goal.returns-in_err-done-clause-served
returns-in_err-done-clause-served g c =
    let p = err_from_is_err_and c.from_residual.result c.from_residual.ensures.1 in
    let bytes = c.args.bytes.now in
    rw (p.1, p.2) (serves_stops _ _ _ _ c.in_err-done.field-0.0 c.loop-done.done c.rest_after.result.now bytes (state_of c.args.self.now) (state_of c.loop-done.self)
    c.rest_after.ensures c.loop-done.invariant.served c.in_err-done.ensures)

pub loop-done-preserved : goal.loop-done-preserved
loop-done-preserved g c =
    let h = c.in_ok-done.ensures in
    let bound = simp length-drop at (rw c.rest_after.ensures at h.1) in
    record {
      within = omega (arith, bound);
      served = serves_more _ _ _ c.loop-done.done c.in_ok-done.field-0 c.rest_after.result.now c.args.bytes.now (state_of c.args.self.now) (state_of c.loop-done.self) (state_of c.step.new.self)
          c.rest_after.ensures c.loop-done.invariant.served h.2;
      mark = h.3;
    }

pub returns-clause-served : goal.returns-clause-served
returns-clause-served g c =
    flushed _ _ _ _ c.flush.result c.loop-done.done c.args.bytes.now (state_of c.args.self.now) (state_of c.loop-done.self) c.flush.new.self
    c.loop-done-test.false c.loop-done.invariant.served c.flush.ensures.sent
