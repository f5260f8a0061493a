use Rattle.std.proofs.Common.{◌∙◌, ap, sym, eqb-true, length}
use Rattle.blart_keys.specs.KeyBytes.{vec_bytes}
use Rattle.blart_map.specs.Content.{pairs}
use Rattle.prefix_router.specs.Tables.{all_mounts}
use Rattle.prefix_router.proofs.PlaceLemmas.{flat_without}
use Rattle.prefix_router.proofs.tables.drop_empty.Goals as goal

pub returns-then-is_empty-clause-same : goal.returns-then-is_empty-clause-same
returns-then-is_empty-clause-same g c =
    let none = eqb-true (length (pairs c.index.result.now)) 0 (sym c.is_empty-is_empty.ensures ∙ c.if-is_empty.true) in
    ap all_mounts c.remove.ensures.items ∙ flat_without vec_bytes pairs c.args.tables.now.items c.args.place c.index.result.now c.requires c.index.ensures none
