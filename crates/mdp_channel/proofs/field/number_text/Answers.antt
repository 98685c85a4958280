use Rattle.std.proofs.Common.{sym, ◌∙◌}
use Rattle.mdp_channel.proofs.Numerals.{number_lent}
use Rattle.mdp_channel.proofs.field.number_text.Goals as goal

pub returns : goal.returns
returns c = rw c.ok.ensures.value (number_lent _ c.args.field.now c.from_utf8.result (sym c.is_number.ensures ∙ c.if-not-is_number.false) c.from_utf8.ensures.cases)
