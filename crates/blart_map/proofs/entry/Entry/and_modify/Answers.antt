use Rattle.std.proofs.Common.{refl}
use Rattle.blart_map.specs.Content.{pairs}
use Rattle.art_edits.proofs.Placed.Again.{key_written, value_written, set_again}
use Rattle.blart_map.proofs.entry.Entry.and_modify.Goals as goal

pub returns-in-Occupied : goal.returns-in-Occupied
unfolding pairs
returns-in-Occupied g c =
    let o = c.in-Occupied.entry in
    let kb = g.K.AsBytes.bytes in
    let ps = o.map.now in
    let w = c.f.new.arg2 in
    let set = c.get_mut.ensures.written w in
    rw c.in-Occupied.is (
      c.get_mut.result.now,
      w,
      c.get_mut.ensures.value,
      record { lent = c.get_mut.result; result = c.f.result; left = _; before = refl; met = c.f.ensures; after = refl },
      record {
        same_map = refl;
        set = set.set;
        value = value_written ps o.id w c.get_mut.result.now c.get_mut.ensures.value;
        same_bytes = set.same_bytes;
        same_key = key_written ps o.id w;
        again = λ u n h. set_again kb ps o.id w set.set.0 set.set.2 u n h;
      },
    )

pub f-requires : goal.f-requires
f-requires g c = c.requires c.get_mut.result (rw c.in-Occupied.is c.get_mut.ensures.value)
