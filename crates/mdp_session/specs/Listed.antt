-- The instrument that a caller in C lists, by the words for what a line of a capture says.
use Rattle.std.specs.Prelude.{ℕ, ℤ, pos, ◌==◌, ◌&&◌, nat_le, int_lt, if◌then◌else◌, List, take, Option, Some, None}
use Rattle.std.specs.Ordering.{int_eq}
use Rattle.mdp_templates.specs.Entry.{direct_depth}
use Rattle.mdp_templates.specs.declared.instrument.Instrument.{Instrument}
use Rattle.mdp_capture.specs.Line.{KindAndDepth, calendar_of, instrument, name_of, outright_of}
use Rattle.mdp_session.specs.declared.listed.Listed.{Listed}

-- an id, which is 1 or more
abbrev pub id_in : ℤ → Option ℤ
id_in id = if int_lt id (pos 1) then None else Some id

-- a depth from 1 to 10
abbrev pub depth_in : ℕ → Option ℕ
depth_in depth = if nat_le 1 depth && nat_le depth direct_depth then Some depth else None

-- the name that stands in front, where it has no more bytes than there are
abbrev pub name_in : Listed → Option (List ℕ)
name_in listed = if nat_le listed.length 20 then name_of (take listed.length listed.name) else None

-- a spread of two ids, whose depth is 10
abbrev pub calendar_beside : ℕ → Option ℤ → Option ℤ → Option KindAndDepth
calendar_beside depth leg1 leg2 = if depth == direct_depth then calendar_of leg1 leg2 else None

-- with no legs an outright, else a spread
abbrev pub kind_in : Listed → Option KindAndDepth
kind_in listed =
    if int_eq listed.leg1 (pos 0) && int_eq listed.leg2 (pos 0) then outright_of (depth_in listed.depth)
    else calendar_beside listed.depth (id_in listed.leg1) (id_in listed.leg2)

-- the instrument, if every field is in its range
abbrev pub instrument_in : Listed → Option Instrument
instrument_in listed =
    if listed.reserved == 0 then instrument (id_in listed.id) (name_in listed) (kind_in listed) else None
