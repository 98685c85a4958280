-- What a handler holds after the events so far, and what a complete feed that agrees with them has to do with it.
use Rattle.std.specs.Prelude.{◌≡◌, ℕ, ◌-◌, Bool, true, false, not, ◌&&◌, nat_lt, if◌then◌else◌, List, [], ◌∷◌, ◌++◌, take, slice_get, Option, Some, None}
use Rattle.std.specs.List.{AllZip}
use Rattle.mdp_templates.specs.Packet.{PacketContent}
use Rattle.mdp_templates.specs.declared.feed.Feed.{Feed}
use Rattle.mdp_templates.specs.declared.instrument.Instrument.{Instrument}
use Rattle.mdp_books.specs.Feed.{book_at, sent_by}
use Rattle.mdp_templates.specs.Refused.FeedKind.{incremental}
use Rattle.mdp_arbiter.specs.Accepted.{Event, came}
use Rattle.mdp_arbiter.specs.Arbiter.{is_lost_now}
use Rattle.mdp_arbiter.specs.Channel.{ListedChannel, channel_of}
use Rattle.mdp_arbiter.specs.Fates.{first_stale, waiting}
use Rattle.mdp_arbiter.specs.Machine.{moves_of}
use Rattle.mdp_desks.specs.Moments.{Moment, moments}
use Rattle.mdp_desks.specs.Shown.{since_after}
use Rattle.mdp_desks.specs.declared.desk.Desk.{Desk}
use Rattle.mdp_engine.specs.Engine.{AreChanged, HasBrokenOff, HoldsBook, Stands, View}
use Rattle.mdp_engine.specs.Honest.{IsHonest}
use Rattle.mdp_engine.specs.Kept.{kept_lines}
use Rattle.mdp_engine.specs.Owed.{owed_moments, numbered_moves}
use Rattle.mdp_receiver.specs.Copies.{IsPacketOf}
use Rattle.mdp_receiver.specs.Moved.{MovesAs}
use Rattle.mdp_receiver.specs.Said.{IsSaid, Said, brought_by, kind_of, refusal_in}
use Rattle.mdp_receiver.specs.Taken.{refusal_told, taken_of}
use Rattle.mdp_receiver.specs.declared.handler.ChannelState.{ChannelState}
use Rattle.mdp_receiver.specs.declared.moved.Moved.{Moved}
use Rattle.mdp_receiver.specs.declared.taken.Taken.{Taken}

-- A handler of this channel has taken in these events. Of the moments that their moves show these were let go, and it
-- holds the others.
pub record Handles (channel : ListedChannel) (events : List Event) (gone : List Moment) (v : View) : Type 0 where
  pub stands : Stands channel.listed events gone v
  pub channel_is : v.arbiter.channel ≡ channel_of channel

-- events were taken in: wherever it stood, whatever moments were let go, it stands at these events more
pub record GoesOn (events : List Event) (old new : View) : Type 0 where
  pub stands : (listed : List Instrument) (before : List Event) (gone : List Moment) → Stands listed before gone old
      → Stands listed (before ++ events) gone new
  pub channel : new.arbiter.channel ≡ old.arbiter.channel
  pub keeps : new.keeps_lines ≡ old.keeps_lines

-- what a datagram says was taken in, and this became of it
pub record TakesSaid (said : Said) (taken : Taken) (old new : View) : Type 0 where
  pub goes : GoesOn (brought_by said) old new
  pub refused_is : refusal_told taken ≡ refusal_in said
  pub taken_is : (listed : List Instrument) (before : List Event) (gone : List Moment) → Stands listed before gone old
      → taken ≡ taken_of old.arbiter.channel before said

-- a datagram of a feed was taken in, as it says
abbrev pub TakesDatagram : Feed → List ℕ → Taken → View → View → Type 0
TakesDatagram feed bytes taken old new =
    (said : Said) × IsSaid (kind_of feed) bytes said × TakesSaid said taken old new

-- wherever a handler stood, what a datagram says moved this
abbrev pub TellsMoved : Said → Moved → View → Type 0
TellsMoved said moved old =
    (listed : List Instrument) (before : List Event) (gone : List Moment) → Stands listed before gone old
    → MovesAs old.arbiter.channel before (brought_by said) moved

-- a datagram of a feed was taken in, as it says, and moved this
abbrev pub MovesDatagram : Feed → List ℕ → Taken × Moved → View → View → Type 0
MovesDatagram feed bytes told old new =
    (said : Said) × IsSaid (kind_of feed) bytes said × TakesSaid said told.0 old new × TellsMoved said told.1 old

-- Memory ran out at a datagram of a feed: the lines of what was let go and what is held begin the lines of all events,
-- those that it brings among them.
abbrev pub HasBrokenOffAt : Feed → List ℕ → View → View → Type 0
HasBrokenOffAt feed bytes old new =
    (said : Said) × IsSaid (kind_of feed) bytes said × HasBrokenOff (brought_by said) old new

-- a packet of this number changes nothing, since it has passed or was given up
abbrev pub IsPast : ℕ → View → Type 0
IsPast number v =
    (listed : List Instrument) (before : List Event) (gone : List Moment) (packet : PacketContent)
    → packet.number ≡ number → Stands listed before gone v → Stands listed (before ++ came packet ∷ []) gone v

-- a datagram of this feed is such a packet
pub record IsCopy (feed : Feed) (bytes : List ℕ) (number : ℕ) (v : View) : Type 0 where
  pub kind : kind_of feed ≡ incremental
  pub packet : IsPacketOf bytes number
  pub past : IsPast number v

-- where the channel stands, as far as a handler knows
abbrev pub state_of : View → ChannelState
state_of v = record {
  next = v.arbiter.next;
  lost = is_lost_now v.arbiter;
  highest = v.arbiter.top;
  waiting = waiting v.arbiter;
  stale = if is_lost_now v.arbiter then first_stale v.arbiter.channel.room v.arbiter.top v.arbiter.newest else None;
}

-- whether the book at a slot is the one right before the packet that comes next: no packet is given up, and the book's
-- snapshot includes none that is still to come
abbrev pub is_within : ℕ → Option Desk → Bool
is_within next None = false
is_within next (Some desk) = nat_lt desk.base next

abbrev pub is_current : View → ℕ → Bool
is_current v slot = not (is_lost_now v.arbiter) && is_within v.arbiter.next (slice_get v.desks slot)

-- ---- laws

-- of these moments some were let go: their lines with those that are held are the lines of all, where lines are kept,
-- and what changed are the securities whose books the others print
pub record TellsSo (listed : List Instrument) (all gone : List Moment) (v : View) : Type 0 where
  pub text : kept_lines v.keeps_lines gone ++ v.held ≡ kept_lines v.keeps_lines all
  pub changed : AreChanged listed all gone v.changed

-- What it has told and tells is what the moves of the events show. It is what every complete feed owes that agrees with
-- them, and each security's book is that feed's: right before the packet that comes next, or right after its snapshot's
-- packet where that is later.
abbrev pub LawOfHandlers : Type 0
LawOfHandlers =
    (channel : ListedChannel) (events : List Event) (gone : List Moment) (v : View) → Handles channel events gone v
    → TellsSo channel.listed (moments channel.listed (moves_of channel events)) gone v
    × ((feed : List PacketContent) → IsHonest channel.listed feed events
    → TellsSo channel.listed (owed_moments channel.listed feed (numbered_moves (moves_of channel events))) gone v
    × AllZip (HoldsBook feed v.arbiter.next) (since_after channel.listed (moves_of channel events)).footings v.desks)

-- a book that is told to be current is that of every such feed right before the packet that comes next
abbrev pub LawOfCurrentBooks : Type 0
LawOfCurrentBooks =
    (channel : ListedChannel) (events : List Event) (gone : List Moment) (v : View) (feed : List PacketContent)
    (slot : ℕ) (desk : Desk) → Handles channel events gone v → IsHonest channel.listed feed events
    → is_current v slot ≡ true → slice_get v.desks slot ≡ Some desk
    → desk.book ≡ book_at desk.instrument (sent_by (take (v.arbiter.next - 1) feed))
