use Rattle.std.proofs.Common.{◌≡◌, ◌∙◌, ◌∷◌, refl, sym, ap, subst, length, arith, rules}
use Rattle.std.proofs.lemmas.List.{nil_from_length}
use Rattle.blart.specs.Words.{pairs, bytes, kept_pair, pair_at, PutsAll, held}
use Rattle.caller_tests.proofs.reserving.put_all.Goals as goal

pub loop-key-preserved : goal.loop-key-preserved
unfolding pair_at
loop-key-preserved g c =
    let more : c.loop-key.key-iterator.rest.items ≡ (c.in-Some.key, c.in-Some.score) ∷ c.next.new.self.rest.items = search rules in
    let len = ap length more in (
      c.insert.ensures.same_map ∙ c.loop-key.invariant.0,
      omega (arith, len, c.insert.ensures.least, c.loop-key.invariant.1),
      λ T p. c.loop-key.invariant.2 T (subst (λ l. PutsAll (bytes g.K.AsBytes.bytes) kept_pair (held c.loop-key.room) l T) (sym more) (held c.insert.new.self, c.insert.ensures.put, p)),
    )

pub returns-clause-put : goal.returns-clause-put
returns-clause-put g c =
    let none = nil_from_length c.loop-key.key-iterator.rest.items (search rules) in
    let end = c.scores-2-1.given.1 (search rules) ∙ c.drop-room.ensures in
    let all = c.loop-key.invariant.2 (held c.loop-key.room) (subst (λ l. PutsAll (bytes g.K.AsBytes.bytes) kept_pair (held c.loop-key.room) l (held c.loop-key.room)) (sym none) refl) in
    subst (λ S. PutsAll (bytes g.K.AsBytes.bytes) kept_pair (pairs c.args.scores.now) c.args.batch.items S) (sym (ap pairs end)) all
