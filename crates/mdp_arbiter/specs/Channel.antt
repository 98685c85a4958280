-- What a channel is to those who put its packets in order.
use Rattle.std.specs.Prelude.{ℕ, ℤ, List}
use Rattle.mdp_templates.specs.declared.instrument.Instrument.{Instrument}
use Rattle.mdp_templates.specs.Instrument.{ids_of}
use Rattle.mdp_arbiter.specs.declared.start.Start.{Start}

-- a packet that comes the room or more past the next one gives the next one up; the ids are the listed securities';
-- the start is the receiver's
pub record Channel : Type 0 where
  pub room : ℕ
  pub ids : List ℤ
  pub start : Start

-- a channel as its receiver is set up: the listed securities, the room and the start
pub record ListedChannel : Type 0 where
  pub listed : List Instrument
  pub room : ℕ
  pub start : Start

-- what the recovery machine knows of it
abbrev pub channel_of : ListedChannel → Channel
channel_of channel = record { room = channel.room; ids = ids_of channel.listed; start = channel.start }
