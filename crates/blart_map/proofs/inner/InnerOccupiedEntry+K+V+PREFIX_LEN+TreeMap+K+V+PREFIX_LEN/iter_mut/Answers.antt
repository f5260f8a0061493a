use Rattle.std.proofs.Common.{lit<, refl, sym, ap, ◌∙◌, subst}
use Rattle.blart_keys.specs.Bytes.{related}
use Rattle.art_walk.specs.declared.cursor.Cursor.{Cursor}
use Rattle.art_walk.specs.Cursor.{FitsIn, leaves_left}
use Rattle.blart_map.proofs.Related.InnerPairs.{inner_span}
use Rattle.blart_map.proofs.Written.OnceWritten.{opened_written}
use Rattle.blart_map.proofs.Passed.Opening.{opens}
use Rattle.blart_map.proofs.inner.InnerOccupiedEntry+K+V+PREFIX_LEN+TreeMap+K+V+PREFIX_LEN.iter_mut.Goals as goal

pub of-requires : goal.of-requires
of-requires g c =
    let e = c.args.self in
    let kb = g.K.AsBytes.bytes in
    let span = inner_span kb e.map.now (kb e.key) e.first e.last c.numbers_law.ensures.content c.numbers_law.ensures.distinct e.stands in
    (lit< tt, (lit< tt, opens c.between.result e.map.now e.map.now refl (subst (λ (k : Cursor). FitsIn k e.map.now) (sym c.between.ensures) span.0)))

pub returns-clause-left : goal.returns-clause-left
returns-clause-left g c =
    let e = c.args.self in
    let kb = g.K.AsBytes.bytes in
    let span = inner_span kb e.map.now (kb e.key) e.first e.last c.numbers_law.ensures.content c.numbers_law.ensures.distinct e.stands in
    ap (λ (ps : _). leaves_left c.of.result.cursor ps) c.of.ensures.unchanged ∙ ap (λ (k : Cursor). leaves_left k e.map.now) (c.of.ensures.same_cursor ∙ c.between.ensures) ∙ span.1

pub returns-clause-all : goal.returns-clause-all
returns-clause-all g c f =
    let e = c.args.self in
    let kb = g.K.AsBytes.bytes in
    let span = inner_span kb e.map.now (kb e.key) e.first e.last c.numbers_law.ensures.content c.numbers_law.ensures.distinct e.stands in
    opened_written f c.between.result c.of.result.cursor e.map.now e.map.now c.of.result.map.now refl c.of.ensures.unchanged c.numbers_law.ensures.distinct c.of.ensures.same_cursor (λ pair. related (kb pair.0) (kb e.key))
    (ap (λ (k : Cursor). leaves_left k e.map.now) c.between.ensures ∙ span.1)
