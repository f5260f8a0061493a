use Rattle.std.proofs.Common.{◌∙◌, ap}
use Rattle.std.proofs.lemmas.Result.{on_ok_weaker, on_err_weaker}
use Rattle.art_tree.specs.Pairs.{pairs_of}
use Rattle.blart_map.specs.Content.{pairs}
use Rattle.art_edits.proofs.Numbers.{no_pairs}
use Rattle.art_edits.proofs.Moved.Appending.{appended_at, joined_at}
use Rattle.blart_map.proofs.map.TreeMap.append.Goals as goal

pub returns-clause-found : goal.returns-clause-found
unfolding pairs
returns-clause-found g c =
    on_ok_weaker c.move_into.result
    (λ u. appended_at g.K.AsBytes.bytes (pairs_of c.args.self.now) (pairs_of c.args.other.now) (pairs_of c.self.inside.tree.pairs) (pairs_of c.other.inside.tree.pairs) (pairs_of c.move_into.new.to.pairs) (ap pairs_of c.self.view_is) (ap pairs_of c.other.view_is) c.law.ensures.content c.law-2.ensures.content u)
    c.move_into.ensures.appended

pub returns-clause-joined : goal.returns-clause-joined
unfolding pairs
returns-clause-joined g c =
    on_ok_weaker c.move_into.result
    (λ u. joined_at g.K.AsBytes.bytes (pairs_of c.args.self.now) (pairs_of c.args.other.now) (pairs_of c.self.inside.tree.pairs) (pairs_of c.other.inside.tree.pairs) (pairs_of c.move_into.new.to.pairs) (ap pairs_of c.self.view_is) (ap pairs_of c.other.view_is) u)
    c.move_into.ensures.appended

pub returns-clause-refused : goal.returns-clause-refused
unfolding pairs
returns-clause-refused g c =
    on_err_weaker c.move_into.result (λ n e. n (no_pairs c.self.inside.tree.pairs (ap pairs_of c.self.view_is ∙ e))) c.move_into.ensures.refused

pub returns-clause-other_refused : goal.returns-clause-other_refused
unfolding pairs
returns-clause-other_refused g c =
    on_err_weaker c.move_into.result (λ n e. n (no_pairs c.other.inside.tree.pairs (ap pairs_of c.other.view_is ∙ e))) c.move_into.ensures.from_refused
