-- Eight digits are the digits of the number that they make.
use Rattle.std.proofs.Common.{sym, ◌∙◌}
use Rattle.blart_keys.proofs.NumberKeys.{be_seen_8}
use Rattle.script_words.proofs.keys.number_of_digits.Goals as goal

pub returns : goal.returns
returns c = sym (be_seen_8 c.args.digits (record { len = c.value_law.ensures.len; small = c.value_law.ensures.small }) (sym (c.new.ensures.number ∙ c.from_be_bytes.ensures)))
