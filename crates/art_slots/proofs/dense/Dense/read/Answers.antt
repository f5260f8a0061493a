use Rattle.std.proofs.Common.{IsSome, true≢false, subst, sym, ap, ◌∙◌}
use Rattle.std.specs.Prelude.{option_copied}
use Rattle.art_slots.proofs.Packed.{vals, full_at}
use Rattle.art_slots.proofs.dense.Dense.read.Goals as goal

pub unreachable-requires : goal.unreachable-requires
unreachable-requires g c =
    let xs = c.self.inside.slab.slots in
    let full = full_at xs (vals xs) c.self.invariant c.args.key (rw (← c.self.view_is) at c.requires) in
    absurd (true≢false (sym (subst IsSome (sym c.get.ensures ∙ ap option_copied c.in-None.is) full)))
