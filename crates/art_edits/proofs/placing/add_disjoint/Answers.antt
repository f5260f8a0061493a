use Rattle.std.proofs.Common.{◌∙◌, lit<, ap, Ok}
use Rattle.art_edits.proofs.Placed.Adding.{added_related, disjoint_no_conflict}
use Rattle.art_edits.proofs.placing.add_disjoint.Goals as goal

pub leaf-requires : goal.leaf-requires
leaf-requires g c = (lit< tt, added_related _ _ _ _ c.add.ensures.added (c.in-Ok-Conflict.is ∙ ap Ok c.in-Ok-Conflict.field-0-is) c.law.ensures.content c.law.ensures.distinct)

pub unreachable-requires : goal.unreachable-requires
unreachable-requires g c = disjoint_no_conflict _ _ _ _ c.add.ensures.added (c.in-Ok-Conflict.is ∙ ap Ok c.in-Ok-Conflict.field-0-is) c.law.ensures.content c.law.ensures.distinct g.K.AsBytes.IsValue g.met.K.NoPrefixesBytes.no_fronts c.value_law-in-Ok-Conflict.ensures (c.leaf.result.0.now, c.leaf.result.1.now) c.leaf.ensures.value c.value_law.ensures
