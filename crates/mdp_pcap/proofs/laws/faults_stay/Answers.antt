use Rattle.mdp_pcap.specs.Reader.{Takes}
use Rattle.mdp_pcap.proofs.Readers.{faults_stay}
use Rattle.mdp_pcap.proofs.laws.faults_stay.Goals as goal

pub returns : goal.returns
returns g c = λ old now text piece before after fault. faults_stay (Takes g.S.TakesFrames.holds before after) old now text piece fault
