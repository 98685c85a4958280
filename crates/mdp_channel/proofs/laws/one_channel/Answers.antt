use Rattle.mdp_channel.proofs.Answering.{one_channel}
use Rattle.mdp_channel.proofs.laws.one_channel.Goals as goal

pub returns : goal.returns
returns c = one_channel
