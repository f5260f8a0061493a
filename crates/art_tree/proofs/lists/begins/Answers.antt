use Rattle.std.proofs.Common.{◌∙◌}
use Rattle.blart_keys.proofs.ByteLemmas.{begins_starts_with}
use Rattle.art_tree.proofs.lists.begins.Goals as goal

pub returns : goal.returns
returns c = c.starts_with.ensures.value ∙ begins_starts_with c.args.a.now c.args.b.now
