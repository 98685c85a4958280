use Rattle.std.proofs.Common.{None, refl}
use Rattle.mdp_pcap.specs.Outcome.{Cut}
use Rattle.mdp_recording.proofs.Framing.{cut_told, nothing_told}
use Rattle.mdp_recording.proofs.datagrams.FramedDatagrams.tell_cut_away.Goals as goal

pub returns-then-self : goal.returns-then-self
returns-then-self g c = nothing_told (Cut None) c.args.number c.args.self.now (λ n. refl) (rw c.if-self.true refl) (rw c.if-self.true refl)

pub returns : goal.returns
returns g c = cut_told c.args.number c.args.self.now c.tell.new.self c.if-self.false c.in_ok-tell.ensures
