-- Packets as definitions see them: plain data, without where it lies in memory.
use Rattle.std.specs.Prelude.{ℕ, List, Bool}
use Rattle.mdp_templates.specs.declared.entry.Entry.{Entry}

-- the entries of a message, and whether it ends its event
pub record MessageContent : Type 0 where
  pub entries : List Entry
  pub end : Bool

-- the number of a packet, and its messages in order
pub record PacketContent : Type 0 where
  pub number : ℕ
  pub messages : List MessageContent
