-- The number and the name of each fault of a file, which are printed.
use Rattle.std.specs.Prelude.{ℕ, List, codes}
use Rattle.mdp_pcap.specs.declared.layout.PcapFault.{PcapFault}
use Rattle.mdp_pcap.specs.declared.layout.PcapFault.TheVariants as faults

abbrev pub pcap_fault_number : PcapFault → ℕ
pcap_fault_number faults.NotPcap = 71
pcap_fault_number faults.LinkType = 72
pcap_fault_number faults.RecordSize = 73
pcap_fault_number faults.CutShort = 74

abbrev pub pcap_fault_name : PcapFault → List ℕ
pcap_fault_name faults.NotPcap = codes "NotPcap"
pcap_fault_name faults.LinkType = codes "LinkType"
pcap_fault_name faults.RecordSize = codes "RecordSize"
pcap_fault_name faults.CutShort = codes "CutShort"
