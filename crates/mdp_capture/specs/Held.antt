-- What a record holds in memory, as definitions see it.
use Rattle.mdp_capture.specs.Record.{Received, Datagram, Close}
use Rattle.mdp_capture.specs.declared.record.Held.{Held}
use Rattle.mdp_capture.specs.declared.record.Held.TheVariants as held

-- a datagram's bytes, wherever they lie, or the close of the channel
abbrev pub received_of : {A : Type 0} → Held A → Received
received_of (held.Own bytes) = Datagram bytes.items
received_of (held.Shared bytes) = Datagram bytes
received_of held.Close = Close
