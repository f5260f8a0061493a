use Rattle.std.proofs.Common.{◌++◌, [], take, refl, arith, length-append}
use Rattle.std.proofs.lemmas.List.{length-take-le}
use Rattle.std.proofs.lemmas.Result.{err_from_is_err_and}
use Rattle.std.proofs.KnownBytes.{Consumes-nil, Consumes-trans}
use Rattle.line_program.proofs.Serving.{Serves-none, Serves-trans}
use Rattle.line_program.proofs.Ending.{served_stops, unmarked_read, read_once}
use Rattle.line_program.specs.Serves.{Serves}
use Rattle.line_program.specs.Session.{state_of}
use Rattle.line_program.proofs.program.read_all.Goals as goal

pub loop-turn-init : goal.loop-turn-init
loop-turn-init g c = record {
  read = [];
  came = Consumes-nil _;
  turns = omega arith;
  served = Serves-none _ (state_of c.args.session.now) c.requires.line;
  none = c.requires.none;
  reader_mark = c.requires.reader;
  writer_mark = c.requires.writer;
  once = λ e. (e, refl);
}

pub returns-in_err-serve-in-Ok-clause-read : goal.returns-in_err-serve-in-Ok-clause-read
returns-in_err-serve-in-Ok-clause-read g c =
    let p = err_from_is_err_and c.from_residual.result c.from_residual.ensures.1 in
    let i = c.loop-turn.invariant in
    rw (p.1, p.2) (served_stops _ _ _ _ _ _ _ _ c.in_err-serve-in-Ok.field-0.0 i.read _ c.front.result.now (state_of c.args.session.now) (state_of c.loop-turn.session) (state_of c.serve.new.self)
    i.came c.in-Ok.ensures.bytes.0 c.front.ensures i.served c.in_err-serve-in-Ok.ensures.served (unmarked_read _ _ i.reader_mark c.in-Ok.ensures.mark))

pub loop-turn-preserved : goal.loop-turn-preserved
loop-turn-preserved g c =
    let i = c.loop-turn.invariant in
    let h = c.in_ok-serve-in-Ok.ensures in
    let front = take c.in-Ok.count c.read.new.buf in
    let served : Serves _ _ (i.read ++ front) (state_of c.args.session.now) (state_of c.serve.new.self) = Serves-trans i.served (rw (← c.front.ensures) h.served.0) in
    let long = length-append i.read front in
    let count = length-take-le c.in-Ok.count c.read.new.buf (omega (arith, c.in-Ok.ensures.bound)) in
    record {
      read = i.read ++ front;
      came = Consumes-trans _ _ _ i.read front i.came c.in-Ok.ensures.bytes.0;
      turns = omega (arith, long, count, i.turns, c.in-Ok.count-test.1);
      served = served;
      none = h.sent;
      reader_mark = unmarked_read _ _ i.reader_mark c.in-Ok.ensures.mark;
      writer_mark = h.served.1;
      once = λ e. read_once _ _ _ _ _ c.in-Ok.count _ c.in-Ok.count-test.1 (i.once e) c.in-Ok.ensures.ended c.in-Ok.ensures.again;
    }
