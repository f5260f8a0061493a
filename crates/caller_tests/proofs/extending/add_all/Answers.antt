use Rattle.std.proofs.Common.{sym, subst, ◌∙◌, map-id}
use Rattle.std.proofs.lemmas.Iterator.Adapters.{fact_from_extend, YieldsList-from_vec}
use Rattle.caller_tests.proofs.extending.add_all.Goals as goal

pub returns : goal.returns
returns g c = fact_from_extend (λ x. x) c.extend.result c.extend.ensures.ran (λ it b. YieldsList-from_vec {s = it} _ b.0 (b.1 ∙ c.args.items.ok.0)) (λ xs e h. subst (λ ys. g.E.Extend.extend_gives c.args.all.now ys c.extend.new.self) (sym (map-id xs) ∙ e) h)
