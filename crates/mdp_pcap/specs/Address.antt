-- The multicast groups and ports of a channel's feeds.
use Rattle.std.specs.Prelude.{◌≡◌, ℕ, ◌==◌, ◌&&◌, Bool, if◌then◌else◌, List, [], ◌∷◌, Option, Some, None}
use Rattle.std.specs.List.{list_any}
use Rattle.mdp_templates.specs.Feed.{feed_letter}
use Rattle.mdp_templates.specs.declared.feed.Feed.{Feed}
use Rattle.mdp_templates.specs.declared.feed.Feed.TheVariants as feeds
use Rattle.mdp_pcap.specs.declared.addresses.FeedAddress.{FeedAddress}

-- an address is of this group and port
abbrev pub is_at : ℕ → ℕ → FeedAddress → Bool
is_at group port address = address.group == group && address.port == port

-- the feed of a group and a port: that of the first address with both
abbrev pub feed_at : ℕ → ℕ → List FeedAddress → Option Feed
feed_at group port [] = None
feed_at group port (address ∷ rest) = if is_at group port address then Some address.feed else feed_at group port rest

-- no two addresses have one group and port
abbrev pub AreApart : List FeedAddress → Type 0
AreApart [] = Unit {0}
AreApart (address ∷ rest) = (feed_at address.group address.port rest ≡ None) × AreApart rest

-- some address has this group
abbrev pub has_group : ℕ → List FeedAddress → Bool
has_group group addresses = list_any (λ address. address.group == group) addresses

-- some address of this feed has this group
abbrev pub has_feed : Feed → ℕ → List FeedAddress → Bool
has_feed feed group addresses =
    list_any (λ address. address.group == group && feed_letter address.feed == feed_letter feed) addresses

-- the one feed that is there, if just one of A, B and S is
abbrev pub only_one : Bool → Bool → Bool → Option Feed
only_one a b s =
    if a then (if b then None else if s then None else Some feeds.A)
    else if b then (if s then None else Some feeds.B)
    else if s then Some feeds.S
    else None

-- the feed of a group that is one feed's alone
abbrev pub sole_feed : ℕ → List FeedAddress → Option Feed
sole_feed group addresses =
    only_one (has_feed feeds.A group addresses) (has_feed feeds.B group addresses) (has_feed feeds.S group addresses)
