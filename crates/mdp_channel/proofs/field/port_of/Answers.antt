use Rattle.std.proofs.Common.{◌∙◌, arith}
use Rattle.mdp_channel.proofs.Numerals.{number_parsed}
use Rattle.mdp_channel.proofs.field.port_of.Goals as goal

pub returns : goal.returns
returns c =
    c.ok.ensures.value
    ∙ number_parsed 16 65535 c.args.field.now c.in_ok-text.text.now c.parse.result (omega arith) c.parse.ensures.value.0 c.in_ok-text.ensures.0 c.in_ok-text.ensures.1
