-- The channel that a file holds.
use Rattle.std.specs.Prelude.{reverse}
use Rattle.mdp_channel.specs.Channel.{ChannelContent}
use Rattle.mdp_channel.specs.declared.channel_file.ChannelFile.{ChannelFile}

-- its instruments, and its addresses in the order of their lines
abbrev pub channel_in : {A : Type 0} → ChannelFile A → ChannelContent
channel_in file = record { instruments = file.instruments; addresses = reverse file.addresses }
