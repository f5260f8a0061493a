use Rattle.std.proofs.Common.{◌≡◌, false, rules}
use Rattle.std.specs.Prelude.{bytes_eq, codes}
use Rattle.line_program.proofs.Parsing.{decoded}
use Rattle.line_program.proofs.replies.decode_key.Goals as goal

pub returns : goal.returns
returns c = λ key is.
    let other : bytes_eq c.args.word.now (codes "-") ≡ false = search rules in
    rw c.ok.ensures.value (decoded c.args.word.now key c.decode.result other is c.decode.ensures.ok)
