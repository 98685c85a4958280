-- The statuses, by number.
use Rattle.std.specs.Prelude.{ℕ, Option, None, Some}
use Rattle.mdp_sbe.specs.Refusal.{refusal_number}
use Rattle.mdp_capture.specs.Faults as capture
use Rattle.mdp_receiver.specs.declared.taken.Taken.{Taken}
use Rattle.mdp_receiver.specs.declared.taken.Taken.TheVariants.{Packet, Snapshots, Refused}
use Rattle.mdp_session.specs.declared.list_fault.Unlisted.{Unlisted}
use Rattle.mdp_session.specs.declared.list_fault.Unlisted.TheVariants as entries
use Rattle.mdp_engine.specs.Engine.{View}

-- the call did what it says
abbrev pub done : ℕ
done = 0

-- a line of a text is no `I` line
abbrev pub no_listing : ℕ
no_listing = 21

-- a datagram has more than 2,048 bytes
abbrev pub too_long : ℕ
too_long = 23

-- no instrument is listed
abbrev pub none_listed : ℕ
none_listed = 34

-- memory ran out, now or in an earlier call
abbrev pub memory : ℕ
memory = 41

-- the handle is closed, or it is open
abbrev pub is_closed : ℕ
is_closed = 81

abbrev pub is_open : ℕ
is_open = 82

-- an argument is out of its range
abbrev pub out_of_range : ℕ
out_of_range = 83

-- an array is too short
abbrev pub too_short : ℕ
too_short = 84

-- a datagram was taken in, or is refused, 1 to 18
abbrev pub taken_status : Taken → ℕ
taken_status (Packet _) = done
taken_status (Snapshots _) = done
taken_status (Refused refusal) = refusal_number refusal

-- an entry says no instrument, which has this status, or its instrument is refused, 31 to 33
abbrev pub unlisted_status : ℕ → Unlisted → ℕ
unlisted_status no_instrument entries.NoInstrument = no_instrument
unlisted_status no_instrument (entries.Refused refusal) = capture.refusal_number refusal

-- of a call that asks an open handle alone
abbrev pub open_status : Option View → ℕ
open_status None = is_closed
open_status (Some v) = done
