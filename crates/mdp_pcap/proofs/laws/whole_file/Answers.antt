use Rattle.mdp_pcap.specs.Reader.{Takes}
use Rattle.mdp_pcap.proofs.Readers.{whole_file}
use Rattle.mdp_pcap.proofs.laws.whole_file.Goals as goal

pub returns : goal.returns
returns g c = λ now text before after. whole_file (Takes g.S.TakesFrames.holds before after) now text
