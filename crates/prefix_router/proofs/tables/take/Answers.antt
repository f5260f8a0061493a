use Rattle.std.proofs.Common.{rules}
use Rattle.blart_keys.specs.KeyBytes.{vec_bytes}
use Rattle.blart_map.specs.Content.{pairs}
use Rattle.prefix_router.proofs.PlaceLemmas.{taken}
use Rattle.prefix_router.proofs.tables.take.Goals as goal

pub returns : goal.returns
returns g c =
    let did = taken vec_bytes pairs c.args.tables.now.items c.args.place c.index_mut-table.result.now c.remove.new.self c.args.path.now c.remove.result c.requires c.index_mut-table.ensures.value c.remove.ensures.stored c.remove.ensures.updates c.remove.ensures.len in
    record {
      old = did.value;
      some = did.some;
      others = did.others;
      len = did.len;
      tables = search rules;
    }
