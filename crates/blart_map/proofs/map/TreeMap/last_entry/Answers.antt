use Rattle.std.proofs.Common.{refl, ap, sym, ◌∙◌, is_some}
use Rattle.blart_map.specs.Content.{pairs}
use Rattle.blart_map.proofs.Passed.EndPairs.{last_there, named_has, no_last_pair}
use Rattle.blart_map.proofs.map.TreeMap.last_entry.Goals as goal

pub invariant_of-self : goal.invariant_of-self
invariant_of-self g c =
    let r = last_there c.args.self.now c.in-Some.id c.numbers_law.ensures.distinct c.in-Some.ensures in
    record { stands = named_has c.args.self.now c.in-Some.id r.0 r.1 }

pub returns-in-Some : goal.returns-in-Some
unfolding pairs
returns-in-Some g c =
    let r = last_there c.args.self.now c.in-Some.id c.numbers_law.ensures.distinct c.in-Some.ensures in (
      (refl, (λ w. refl), tt),
      record {
        stands = tt;
        found = ap (λ o. is_some o) (sym r.2);
        same_map = refl;
        unchanged = refl;
        pair = r.1 ∙ sym r.2;
      },
    )

pub returns-in-None : goal.returns-in-None
unfolding pairs
returns-in-None g c = (
  (refl, (λ w. tt), refl),
  record {
    stands = tt;
    found = ap (λ o. is_some o) (sym (no_last_pair c.args.self.now c.in-None.ensures));
    same_map = tt;
    unchanged = tt;
    pair = tt;
  },
)
