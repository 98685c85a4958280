use Rattle.mdp_pcap.proofs.Readers.{pieces_add}
use Rattle.mdp_pcap.proofs.laws.pieces_add.Goals as goal

pub returns : goal.returns
returns g c = pieces_add g.S.TakesFrames.holds
