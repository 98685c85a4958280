use Rattle.std.proofs.Common.{◌≡◌, ◌≤◌, ◌++◌, ◌+◌, ◌-◌, ◌*◌, drop, length, None}
use Rattle.mdp_pcap.specs.Reader.{Takes, content_of, IsReadOn}
use Rattle.mdp_pcap.proofs.pcap_reader.PcapReader.read_on.Given as goal

abbrev pub invariant-loop-count : goal.invariant-loop-count
invariant-loop-count g l = record {
  going : l.self.fault ≡ None;
  fits : l.from ≤ length l.piece;
  so_far : IsReadOn (Takes g.S.TakesFrames.holds l.initial.sink l.sink) (content_of l.initial.self) (content_of l.self) (l.initial.self.held.items ++ l.piece) (l.self.held.items ++ drop l.from l.piece);
}

abbrev pub decreases-loop-count : goal.decreases-loop-count
decreases-loop-count g l = 2 * (length l.piece - l.from) + length l.self.held.items
