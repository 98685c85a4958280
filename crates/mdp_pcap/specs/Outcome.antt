-- What a frame brings on the feeds of a channel.
use Rattle.std.specs.Prelude.{ℕ, nat_lt, if◌then◌else◌, List, length, Option, Some, None}
use Rattle.mdp_templates.specs.declared.feed.Feed.{Feed}
use Rattle.mdp_pcap.specs.Frame.{FrameContent}
use Rattle.mdp_pcap.specs.Address.{feed_at, has_group, sole_feed}
use Rattle.mdp_pcap.specs.declared.addresses.FeedAddress.{FeedAddress}
use Rattle.mdp_pcap.specs.declared.outcome.FrameOutcome.{FrameOutcome}
use Rattle.mdp_pcap.specs.declared.outcome.FrameOutcome.TheVariants as outcomes

-- no feed's frame; a datagram on a feed; one whose payload is too long; a frame that was cut; a fragment; a datagram
-- whose lengths contradict one another
pub data OutcomeContent : Type 0 where
  NoFeed : OutcomeContent
  Datagram : Feed → List ℕ → OutcomeContent
  TooLong : Feed → OutcomeContent
  Cut : Option Feed → OutcomeContent
  Fragment : Option Feed → OutcomeContent
  Broken : Feed → OutcomeContent

-- a datagram on a feed: its payload has at most 2,048 bytes
abbrev pub datagram_on : Feed → List ℕ → OutcomeContent
datagram_on feed payload = if nat_lt 2048 (length payload) then TooLong feed else Datagram feed payload

-- what a frame is on the feed of its address, and what if that is no feed's
abbrev pub on_feed : (Feed → OutcomeContent) → Option Feed → OutcomeContent
on_feed outcome None = NoFeed
on_feed outcome (Some feed) = outcome feed

-- what a frame brings on the feeds of these addresses
abbrev pub outcome_of : List FeedAddress → FrameContent → OutcomeContent
outcome_of addresses FrameContent.Other = NoFeed
outcome_of addresses FrameContent.CutBeforeGroup = Cut None
outcome_of addresses (FrameContent.CutBeforePort group) = if has_group group addresses then Cut None else NoFeed
outcome_of addresses (FrameContent.Fragment group) =
    if has_group group addresses then Fragment (sole_feed group addresses) else NoFeed
outcome_of addresses (FrameContent.Cut group port) = on_feed (λ feed. Cut (Some feed)) (feed_at group port addresses)
outcome_of addresses (FrameContent.Broken group port) = on_feed Broken (feed_at group port addresses)
outcome_of addresses (FrameContent.Datagram group port payload) =
    on_feed (λ feed. datagram_on feed payload) (feed_at group port addresses)

-- a lent payload, without where it lies in memory
abbrev pub outcome_content : FrameOutcome → OutcomeContent
outcome_content outcomes.NoFeed = NoFeed
outcome_content (outcomes.Datagram feed payload) = Datagram feed payload.now
outcome_content (outcomes.TooLong feed) = TooLong feed
outcome_content (outcomes.Cut feed) = Cut feed
outcome_content (outcomes.Fragment feed) = Fragment feed
outcome_content (outcomes.Broken feed) = Broken feed
