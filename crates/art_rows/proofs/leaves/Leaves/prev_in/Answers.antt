use Rattle.std.proofs.Common.{sym, subst}
use Rattle.art_rows.specs.Rows.{RunsBefore}
use Rattle.art_rows.proofs.Runs.{before_step}
use Rattle.art_rows.proofs.leaves.Leaves.prev_in.Goals as goal

pub returns-in-Some-clause-prev : goal.returns-in-Some-clause-prev
returns-in-Some-clause-prev g c = sym (before_step c.args.self.now.pairs c.law.ensures.distinct c.args.id c.in-Some.prev c.requires.has c.split_off_last.new.self (subst (RunsBefore c.args.self.now.pairs c.args.id) c.in-Some.ensures c.requires.runs)).0

pub returns-in-Some-clause-runs : goal.returns-in-Some-clause-runs
returns-in-Some-clause-runs g c = (before_step c.args.self.now.pairs c.law.ensures.distinct c.args.id c.in-Some.prev c.requires.has c.split_off_last.new.self (subst (RunsBefore c.args.self.now.pairs c.args.id) c.in-Some.ensures c.requires.runs)).1
