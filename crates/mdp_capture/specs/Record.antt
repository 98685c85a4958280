-- Records of a feed as definitions see them: plain data, without where it lies in memory.
use Rattle.std.specs.Prelude.{ℕ, List}

-- what a record holds: the bytes of a datagram, or the close of the channel
pub data Received : Type 0 where
  Datagram : List ℕ → Received
  Close : Received

-- the capture's line that a record came from, and what it holds
pub record RecordContent : Type 0 where
  pub line : ℕ
  pub received : Received
