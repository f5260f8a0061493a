use Rattle.line_program.proofs.Ending.{begun, run_stops, run_ends, marked_stop, marked_end}
use Rattle.line_program.specs.Session.{state_of}
use Rattle.line_program.proofs.program.run.Goals as goal

pub returns-in-Err : goal.returns-in-Err
returns-in-Err g c =
    let h = rw c.new-session.ensures at c.in-Err.ensures.read in
    let last = state_of c.read_all.new.session in
    record {
      replied = run_stops _ _ _ _ _ _ c.in-Err.error last h;
      marks = marked_stop _ _ _ _ _ _ c.in-Err.error begun last h;
      once = c.in-Err.ensures.once;
    }

pub returns : goal.returns
returns g c =
    let h = rw c.new-session.ensures at c.in_default.ensures.read in
    let last = state_of c.read_all.new.session in
    record {
      replied = run_ends _ _ _ _ _ _ _ _ c.finish-ended.result last _ h c.finish-ended.ensures;
      marks = marked_end _ _ _ _ _ _ _ _ c.finish-ended.result begun last _ h c.finish-ended.ensures;
      once = c.in_default.ensures.once;
    }
