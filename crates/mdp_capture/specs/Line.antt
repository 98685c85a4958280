-- What one line of a capture is, by its bytes.
use Rattle.std.specs.Prelude.{ℕ, ℤ, pos, ◌+◌, ◌-◌, ◌*◌, ◌==◌, ◌&&◌, not, nat_le, Bool, if◌then◌else◌, List, [], ◌∷◌, length, slice_index, fold, codes, Option, Some, None, Result, Ok, Err}
use Rattle.std.specs.List.{slice_split, list_all}
use Rattle.std.specs.Option.{option_map}
use Rattle.std.specs.Str.{bytes_eq}
use Rattle.hex.specs.Hex.{decode_of}
use Rattle.hex.specs.declared.error.FromHexError.{FromHexError}
use Rattle.mdp_templates.specs.Entry.{direct_depth}
use Rattle.mdp_templates.specs.declared.instrument.Instrument.{Instrument}
use Rattle.mdp_templates.specs.declared.instrument.InstrumentKind.{InstrumentKind}
use Rattle.mdp_templates.specs.declared.instrument.InstrumentKind.TheVariants.{Outright, Calendar}
use Rattle.mdp_templates.specs.declared.feed.Feed.{Feed}
use Rattle.mdp_templates.specs.declared.feed.Feed.TheVariants as feeds
use Rattle.mdp_capture.specs.declared.skip.Skip.{Skip}
use Rattle.mdp_capture.specs.declared.skip.Skip.TheVariants.{LineForm, Hex, TooLong}

-- nothing, an instrument, a datagram on a feed, a close, or a line that is skipped
pub data LineContent : Type 0 where
  Blank : LineContent
  Listing : Instrument → LineContent
  Packet : Feed → List ℕ → LineContent
  Closing : LineContent
  Skipped : Skip → LineContent

-- the fields of a line: what stands between its spaces
abbrev pub fields : List ℕ → List (List ℕ)
fields text = slice_split (λ byte. byte == 32) text

-- whether a byte is a decimal digit
abbrev pub is_digit : ℕ → Bool
is_digit byte = nat_le 48 byte && nat_le byte 57

-- whether a field has decimal digits alone and no leading zero
abbrev pub is_number : List ℕ → Bool
is_number field = not (slice_index field 0 == 48) && list_all is_digit field

-- the number that decimal digits spell
abbrev pub decimal : List ℕ → ℕ
decimal digits = fold (λ number digit. number * 10 + (digit - 48)) 0 digits

-- a decimal number from 1 to the most, without sign or leading zero
abbrev pub number_of : ℕ → List ℕ → Option ℕ
number_of most field =
    if is_number field && nat_le 1 (decimal field) && nat_le (decimal field) most then Some (decimal field) else None

-- an id: a number from 1 to 2147483647
abbrev pub id_of : List ℕ → Option ℤ
id_of field = option_map pos (number_of 2147483647 field)

-- whether a byte is one of the 94 that show in ASCII
abbrev pub is_graphic : ℕ → Bool
is_graphic byte = nat_le 33 byte && nat_le byte 126

-- whether a field has 1 to 20 bytes, each from 33 to 126
abbrev pub is_name : List ℕ → Bool
is_name field = nat_le 1 (length field) && nat_le (length field) 20 && list_all is_graphic field

-- the name of an instrument
abbrev pub name_of : List ℕ → Option (List ℕ)
name_of field = if is_name field then Some field else None

-- a depth: a number from 1 to 10
abbrev pub depth_of : List ℕ → Option ℕ
depth_of field = number_of direct_depth field

-- what an instrument is, and how many levels a side of its direct book has at most
abbrev pub KindAndDepth : Type 0
KindAndDepth = InstrumentKind × ℕ

-- an outright of a depth, where there is one
abbrev pub outright_of : Option ℕ → Option KindAndDepth
outright_of (Some depth) = Some (Outright, depth)
outright_of None = None

-- an outright of the depth of these fields, which is 10 where there is no field
abbrev pub outright_of_fields : List (List ℕ) → Option KindAndDepth
outright_of_fields [] = Some (Outright, direct_depth)
outright_of_fields (depth ∷ []) = outright_of (depth_of depth)
outright_of_fields (depth ∷ more ∷ rest) = None

-- a calendar spread of two legs, where both have an id; its depth is 10
abbrev pub calendar_of : Option ℤ → Option ℤ → Option KindAndDepth
calendar_of (Some leg1) (Some leg2) = Some (Calendar leg1 leg2, direct_depth)
calendar_of (Some leg1) None = None
calendar_of None leg2 = None

-- a calendar spread of the two ids of these fields
abbrev pub calendar_of_fields : List (List ℕ) → Option KindAndDepth
calendar_of_fields (leg1 ∷ leg2 ∷ []) = calendar_of (id_of leg1) (id_of leg2)
calendar_of_fields _ = None

-- what an instrument is: `O` and `O depth` are outrights, and `C leg1 leg2` a calendar spread
abbrev pub kind_of : List (List ℕ) → Option KindAndDepth
kind_of [] = None
kind_of (letter ∷ rest) =
    if bytes_eq letter (codes "O") then outright_of_fields rest
    else if bytes_eq letter (codes "C") then calendar_of_fields rest
    else None

-- an instrument of an id, a name and a kind, where none of them is missing
abbrev pub instrument : Option ℤ → Option (List ℕ) → Option KindAndDepth → Option Instrument
instrument (Some id) (Some name) (Some kind) = Some (record { id = id; name = name; kind = kind.0; depth = kind.1 })
instrument (Some id) (Some name) None = None
instrument (Some id) None kind = None
instrument None name kind = None

-- the instrument of the fields after `I`
abbrev pub instrument_of : List (List ℕ) → Option Instrument
instrument_of (id ∷ name ∷ kind) = instrument (id_of id) (name_of name) (kind_of kind)
instrument_of (id ∷ []) = None
instrument_of [] = None

-- the line of an instrument, if it is one
abbrev pub listing : Option Instrument → LineContent
listing (Some instrument) = Listing instrument
listing None = Skipped LineForm

-- the line of a datagram whose digits spell these bytes, at most 2,048 of them
abbrev pub packet : Feed → Result (List ℕ) FromHexError → LineContent
packet feed (Ok bytes) = if nat_le (length bytes) 2048 then Packet feed bytes else Skipped TooLong
packet feed (Err _) = Skipped Hex

-- the datagram of the fields after `A`, `B` or `S`: one field of hexadecimal digits, which isn't empty
abbrev pub packet_of : Feed → List (List ℕ) → LineContent
packet_of feed (digits ∷ []) = if length digits == 0 then Skipped LineForm else packet feed (decode_of digits)
packet_of feed (digits ∷ more ∷ rest) = Skipped LineForm
packet_of feed [] = Skipped LineForm

-- the close of the fields after `X`: none
abbrev pub closing_of : List (List ℕ) → LineContent
closing_of [] = Closing
closing_of (more ∷ rest) = Skipped LineForm

-- what the fields of a line say, the first of which is one letter
abbrev pub line_of_fields : List (List ℕ) → LineContent
line_of_fields [] = Skipped LineForm
line_of_fields (letter ∷ rest) =
    if bytes_eq letter (codes "I") then listing (instrument_of rest)
    else if bytes_eq letter (codes "A") then packet_of feeds.A rest
    else if bytes_eq letter (codes "B") then packet_of feeds.B rest
    else if bytes_eq letter (codes "S") then packet_of feeds.S rest
    else if bytes_eq letter (codes "X") then closing_of rest
    else Skipped LineForm

-- what a line says, without its line feed and the carriage return before it
abbrev pub line_of : List ℕ → LineContent
line_of text = if length text == 0 then Blank else line_of_fields (fields text)
