use Rattle.std.proofs.Common.{refl}
use Rattle.art_kinds.specs.declared.records.ids.Kind.TheVariants.{FortyEight}
use Rattle.art_kinds.proofs.Moving.{keeps_kind}
use Rattle.art_kinds.proofs.records.nodes.Nodes.narrow_forty_eight.Goals as goal

pub returns-then-count-gt16-clause-moved : goal.returns-then-count-gt16-clause-moved
returns-then-count-gt16-clause-moved g c = keeps_kind c.args.self.now c.args.self.now (λ j. refl) FortyEight c.args.place c.of-kept.ensures c.requires.live

pub returns-in-Err-clause-moved : goal.returns-in-Err-clause-moved
returns-in-Err-clause-moved g c = keeps_kind _ _ c.in-Err.ensures.same FortyEight c.args.place c.of-kept.ensures c.requires.live
