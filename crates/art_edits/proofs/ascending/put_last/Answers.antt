use Rattle.art_edits.proofs.Moved.AtEnd.{value_put, new_put}
use Rattle.art_edits.proofs.ascending.put_last.Goals as goal

pub returns-then-has_bytes-clause-put : goal.returns-then-has_bytes-clause-put
returns-then-has_bytes-clause-put g c =
    value_put g.K.AsBytes.bytes c.args.pairs.now.pairs c.requires.content c.args.key c.args.value c.replace_last-old.result c.replace_last-old.new.self.pairs c.replace_last-old.ensures.replaced (c.has_bytes.ensures.same c.if-has_bytes.true)

pub returns-else-has_bytes-clause-put : goal.returns-else-has_bytes-clause-put
returns-else-has_bytes-clause-put g c =
    new_put g.K.AsBytes.bytes c.args.pairs.now.pairs c.requires.content c.args.key c.args.value c.requires.order (c.has_bytes.ensures.apart c.if-has_bytes.false) c.push.new.self.pairs c.push.ensures.pushed
