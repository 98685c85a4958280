-- The address that a line says, by its bytes.
use Rattle.std.specs.Prelude.{ℕ, ◌==◌, if◌then◌else◌, List, [], ◌∷◌, codes, Option, Some, None}
use Rattle.std.specs.Int.{from_be_bytes, w32}
use Rattle.std.specs.List.{slice_split}
use Rattle.std.specs.Option.{option_map_or}
use Rattle.std.specs.Str.{bytes_eq}
use denote.Ref.{Bor}
use Rattle.mdp_capture.specs.Line.{number_of}
use Rattle.mdp_pcap.specs.declared.addresses.FeedAddress.{FeedAddress}
use Rattle.mdp_templates.specs.declared.feed.Feed.{Feed}
use Rattle.mdp_templates.specs.declared.feed.Feed.TheVariants as feeds

-- the parts of a text, which stand between the places of a byte
abbrev pub parts : ℕ → List ℕ → List (List ℕ)
parts cut text = slice_split (λ byte. byte == cut) text

-- the parts of the text behind such a place, none where there was none
abbrev pub parts_left : ℕ → Option (Bor (List ℕ)) → List (List ℕ)
parts_left cut rest = option_map_or (λ text. parts cut text.now) rest []

-- a port: a number from 1 to 65535
abbrev pub port_of : List ℕ → Option ℕ
port_of field = number_of 65535 field

-- a byte: 0, or a number from 1 to 255
abbrev pub byte_of : List ℕ → Option ℕ
byte_of field = if bytes_eq field (codes "0") then Some 0 else number_of 255 field

-- four bytes as one number, the first highest, where none is missing
abbrev pub group : Option ℕ → Option ℕ → Option ℕ → Option ℕ → Option ℕ
group (Some a) (Some b) (Some c) (Some d) = Some (from_be_bytes w32 (a ∷ b ∷ c ∷ d ∷ []))
group (Some a) (Some b) (Some c) None = None
group (Some a) (Some b) None d = None
group (Some a) None c d = None
group None b c d = None

-- the group of four bytes
abbrev pub group_of_parts : List (List ℕ) → Option ℕ
group_of_parts (a ∷ b ∷ c ∷ d ∷ []) = group (byte_of a) (byte_of b) (byte_of c) (byte_of d)
group_of_parts _ = None

-- a group: an IPv4 address in dotted decimals
abbrev pub group_of : List ℕ → Option ℕ
group_of field = group_of_parts (parts 46 field)

-- a feed, by its letter
abbrev pub feed_of : List ℕ → Option Feed
feed_of field =
    if bytes_eq field (codes "A") then Some feeds.A
    else if bytes_eq field (codes "B") then Some feeds.B
    else if bytes_eq field (codes "S") then Some feeds.S
    else None

-- an address of a feed, a group and a port, where none of them is missing
abbrev pub address : Option Feed → Option ℕ → Option ℕ → Option FeedAddress
address (Some feed) (Some group) (Some port) = Some (record { feed = feed; group = group; port = port })
address (Some feed) (Some group) None = None
address (Some feed) None port = None
address None group port = None

-- the address of the fields of a line: `F`, the feed, its group and its port
abbrev pub address_of_fields : List (List ℕ) → Option FeedAddress
address_of_fields (letter ∷ feed ∷ group ∷ port ∷ []) =
    if bytes_eq letter (codes "F") then address (feed_of feed) (group_of group) (port_of port) else None
address_of_fields _ = None

-- the address that a line says, if it says one
abbrev pub address_of : List ℕ → Option FeedAddress
address_of line = address_of_fields (parts 32 line)
