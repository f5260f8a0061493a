use Rattle.std.proofs.Common.{arith, length-drop}
use Rattle.std.proofs.lemmas.List.{drop-drop}
use Rattle.line_program.proofs.Sending.{Sends-more, unmarked_after_some}
use Rattle.line_program.proofs.output.send.Goals as goal

pub loop-sent-preserved : goal.loop-sent-preserved
loop-sent-preserved g c =
    let i = c.loop-sent.invariant in
    let sent = Sends-more c.in-Ok.count i.sent (rw c.rest_after.ensures at c.in-Ok.ensures.bytes) in
    let bound = rw c.rest_after.ensures at c.in-Ok.ensures.bound in
    record {
      within = omega (arith, simp length-drop at bound);
      sent = rw drop-drop at sent;
      mark = unmarked_after_some _ _ c.in-Ok.count _ i.mark c.in-Ok.count-test.1 c.in-Ok.ensures.mark;
    }
