use Rattle.std.proofs.Common.{◌∙◌, subst}
use Rattle.std.specs.Str.Parse.{ParsesUnsigned}
use Rattle.decimals.proofs.Numbers.{is_text, value_read}
use Rattle.decimals.proofs.value_of.Goals as goal

pub unreachable-requires : goal.unreachable-requires
unreachable-requires c = c.in-Err.ensures.cases.0 (is_text c.args.digits.now c.requires)

pub returns : goal.returns
returns c = c.ok.ensures.value ∙ value_read c.args.digits.now c.parse.result c.requires (subst (λ l. ParsesUnsigned 64 10 l c.parse.result) c.in-Ok.ensures.cases.0 c.parse.ensures.value.0)
