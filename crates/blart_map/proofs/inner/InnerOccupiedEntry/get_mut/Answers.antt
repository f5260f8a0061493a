use Rattle.std.proofs.Common.{lit<, refl, sym, ap, ◌∙◌, option_map}
use Rattle.blart_map.specs.Content.{pairs}
use Rattle.blart_map.proofs.Related.InnerPairs.{spans_written, tested, tested_not, inner_has, one_pair, more_pairs, only_written}
use Rattle.blart_map.proofs.inner.InnerOccupiedEntry.get_mut.Goals as goal

pub value_mut-requires : goal.value_mut-requires
value_mut-requires g c =
    let e = c.args.self.now in
    let kb = g.K.AsBytes.bytes in
    (lit< tt, inner_has kb e.map.now (kb e.key) e.first e.last c.numbers_law.ensures.content c.numbers_law.ensures.distinct e.stands)

pub invariant_of-self-lent : goal.invariant_of-self-lent
invariant_of-self-lent g c w =
    let e = c.args.self.now in
    let kb = g.K.AsBytes.bytes in
    (spans_written kb (kb e.key) e.map.now e.first w e.first e.last e.stands, tt)

pub returns-then-eq : goal.returns-then-eq
unfolding pairs
returns-then-eq g c =
    let e = c.args.self.now in
    let kb = g.K.AsBytes.bytes in
    let content = c.numbers_law.ensures.content in
    let distinct = c.numbers_law.ensures.distinct in (
      (refl, (λ w. record { same_map = refl; now = refl; same_key = refl; same_first = refl; same_last = refl }), tt),
      record {
        writes_back = tt;
        value = sym c.value_mut.ensures.value ∙ ap (option_map (λ pair. pair.1)) (one_pair kb e.map.now (kb e.key) e.first e.last content distinct e.stands (tested e.first e.last c.if-eq.ensures));
        written = λ w. only_written kb e.map.now (kb e.key) e.first e.last content distinct e.stands w;
      },
    )

pub returns : goal.returns
unfolding pairs
returns g c =
    let e = c.args.self.now in
    let kb = g.K.AsBytes.bytes in
    let content = c.numbers_law.ensures.content in
    let distinct = c.numbers_law.ensures.distinct in (
      (refl, (λ w. tt), record { same_map = refl; now = refl; same_key = refl; same_first = refl; same_last = refl }),
      record {
        writes_back = tt;
        value = ap (option_map (λ pair. pair.1)) (more_pairs kb e.map.now (kb e.key) e.first e.last content distinct e.stands (tested_not e.first e.last c.if-eq.ensures));
        written = λ w. only_written kb e.map.now (kb e.key) e.first e.last content distinct e.stands w;
      },
    )
