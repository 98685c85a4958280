-- Why a datagram of a feed is refused: the first place in reading order where a condition holds.
use Rattle.std.specs.Prelude.{ℕ, List}
use Rattle.mdp_sbe.specs.declared.refusal.Refusal.{Refusal}
use Rattle.mdp_templates.specs.Incremental.{IsRefusedPacket}
use Rattle.mdp_templates.specs.Recovery.{AreRefusedSnapshots}

-- the incremental feeds, A and B, and the market recovery feed, S
pub data FeedKind : Type 0 where
  incremental : FeedKind
  recovery : FeedKind

abbrev pub IsRefusedAs : FeedKind → List ℕ → Refusal → Type 0
IsRefusedAs incremental text r = IsRefusedPacket text r
IsRefusedAs recovery text r = AreRefusedSnapshots text r
