use Rattle.std.proofs.Common.{◌∙◌, sym, arith}
use Rattle.mdp_receiver.proofs.moved.packet_number.Goals as goal

pub returns-in-Ok : goal.returns-in-Ok
returns-in-Ok c = λ packet is. c.in-Ok.ensures.ok.number ∙ sym (is.number ∙ is.begins.number)

pub returns-in-Err : goal.returns-in-Err
returns-in-Err c = λ packet is. absurd (omega (arith, is.begins.long, c.in-Err.ensures.err.1))
