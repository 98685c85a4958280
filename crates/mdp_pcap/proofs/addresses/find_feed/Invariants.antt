use Rattle.std.proofs.Common.{◌≡◌, drop}
use Rattle.mdp_pcap.specs.Address.{feed_at}
use Rattle.mdp_pcap.proofs.addresses.find_feed.Given as goal

abbrev pub invariant-loop-address : goal.invariant-loop-address
invariant-loop-address l = feed_at l.group l.port l.addresses ≡ feed_at l.group l.port (drop l.address-index l.addresses)
