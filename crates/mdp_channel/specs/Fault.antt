-- The number and the name of each fault of a channel file, which are printed.
use Rattle.std.specs.Prelude.{ℕ, List, codes}
use Rattle.mdp_capture.specs.Faults.{refusal_name, refusal_number}
use Rattle.mdp_capture.specs.declared.fault.CaptureRefusal.TheVariants as listing
use Rattle.mdp_channel.specs.declared.fault.ChannelFault.{ChannelFault}
use Rattle.mdp_channel.specs.declared.fault.ChannelFault.TheVariants as faults
use Rattle.mdp_channel.specs.declared.fault.LineRefusal.{LineRefusal}
use Rattle.mdp_channel.specs.declared.fault.LineRefusal.TheVariants as refusals

abbrev pub line_refusal_number : LineRefusal → ℕ
line_refusal_number refusals.Form = 61
line_refusal_number refusals.AddressTwice = 62
line_refusal_number (refusals.Listing refusal) = refusal_number refusal

abbrev pub line_refusal_name : LineRefusal → List ℕ
line_refusal_name refusals.Form = codes "ChannelForm"
line_refusal_name refusals.AddressTwice = codes "AddressTwice"
line_refusal_name (refusals.Listing refusal) = refusal_name refusal

abbrev pub channel_fault_number : ChannelFault → ℕ
channel_fault_number (faults.Line line refusal) = line_refusal_number refusal
channel_fault_number faults.NoInstrument = refusal_number listing.NoInstrument
channel_fault_number faults.NoAddress = 63
channel_fault_number faults.Memory = 41

abbrev pub channel_fault_name : ChannelFault → List ℕ
channel_fault_name (faults.Line line refusal) = line_refusal_name refusal
channel_fault_name faults.NoInstrument = refusal_name listing.NoInstrument
channel_fault_name faults.NoAddress = codes "NoAddress"
channel_fault_name faults.Memory = codes "Memory"
