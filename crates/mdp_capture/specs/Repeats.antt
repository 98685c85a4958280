-- Datagrams that were decoded already: the bytes that the digits of a line spell, and where they are.
use Rattle.std.specs.Prelude.{◌≡◌, ◌-◌, ℕ, List, length, Option, None, Some, IfSome}
use Rattle.std.specs.List.{slice_get}
use Rattle.mdp_templates.specs.declared.feed.Feed.{Feed}
use Rattle.mdp_templates.specs.declared.feed.Feed.TheVariants as feeds
use Rattle.mdp_capture.specs.Capture.{CaptureContent}
use Rattle.mdp_capture.specs.Draft.{capture_so_far}
use Rattle.mdp_capture.specs.Line.{LineContent, Blank, Listing, Packet, Closing, Skipped, fields, packet_of}
use Rattle.mdp_capture.specs.Record.{RecordContent, Received, Datagram, Close}
use Rattle.mdp_capture.specs.declared.draft.Draft.{Draft}
use Rattle.mdp_capture.specs.declared.skip.Skip.{Skip}

-- a line of these digits brings a datagram of these bytes, whatever its feed
abbrev pub Spells : List ℕ → List ℕ → Type 0
Spells digits bytes = (feed : Feed) → packet_of feed (fields digits) ≡ Packet feed bytes

-- a line of these digits is skipped, whatever its feed
abbrev pub IsSkippedFor : List ℕ → Skip → Type 0
IsSkippedFor digits skip = (feed : Feed) → packet_of feed (fields digits) ≡ Skipped skip

abbrev pub bytes_of_received : Received → Option (List ℕ)
bytes_of_received (Datagram bytes) = Some bytes
bytes_of_received Close = None

abbrev pub bytes_of_record : Option RecordContent → Option (List ℕ)
bytes_of_record (Some entry) = bytes_of_received entry.received
bytes_of_record None = None

-- the bytes of the last of these records, where it is a datagram
abbrev pub newest_of : List RecordContent → Option (List ℕ)
newest_of records = bytes_of_record (slice_get records (length records - 1))

-- the bytes of a feed's last record, where it is a datagram
abbrev pub newest_on : Feed → CaptureContent → Option (List ℕ)
newest_on feeds.A capture = newest_of capture.a
newest_on feeds.B capture = newest_of capture.b
newest_on feeds.S capture = newest_of capture.s

-- the bytes of the datagram that a line brings
abbrev pub bytes_in : LineContent → Option (List ℕ)
bytes_in (Packet feed bytes) = Some bytes
bytes_in (Listing instrument) = None
bytes_in Closing = None
bytes_in Blank = None
bytes_in (Skipped skip) = None

-- where a draft knows on which feed the line before brought a datagram, the last record there has this line's bytes
abbrev pub HasBytesOf : {A : Type 0} → LineContent → Draft A → Type 0
HasBytesOf line draft = IfSome draft.brought_on (λ feed. newest_on feed (capture_so_far draft) ≡ bytes_in line)
