-- Entries that list instruments one after another: those of an array, or the lines of a text.
use Rattle.std.specs.Prelude.{◌≡◌, ◌+◌, ◌<◌, ℕ, List, [], ◌∷◌, map, take, slice_get, option_and_then, Option, Some, None}
use Rattle.std.specs.Option.{option_map}
use Rattle.std.specs.Str.Lines.{lines}
use Rattle.mdp_templates.specs.declared.instrument.Instrument.{Instrument}
use Rattle.mdp_capture.specs.Capture.{refusal_after}
use Rattle.mdp_capture.specs.Line.{line_of}
use Rattle.mdp_capture.specs.Listed.{instrument_said}
use Rattle.mdp_capture.specs.declared.instrument_list.ListedLine.{ListedLine}
use Rattle.mdp_capture.specs.declared.instrument_list.ListedLine.TheVariants as answers
use Rattle.mdp_session.specs.Listed.{instrument_in}
use Rattle.mdp_session.specs.declared.list_fault.ListFault.{ListFault}
use Rattle.mdp_session.specs.declared.list_fault.ListFault.TheVariants as faults
use Rattle.mdp_session.specs.declared.list_fault.Unlisted.{Unlisted}
use Rattle.mdp_session.specs.declared.list_fault.Unlisted.TheVariants.{NoInstrument, Refused}
use Rattle.mdp_session.specs.declared.listed.Listed.{Listed}

-- an entry says an instrument or none
abbrev pub Entries : Type 0
Entries = List (Option Instrument)

abbrev pub entries_of_array : List Listed → Entries
entries_of_array listed = map instrument_in listed

abbrev pub entries_of_text : List ℕ → Entries
entries_of_text text = map (λ (line : List ℕ). instrument_said (line_of line)) (lines text)

-- the instruments that entries say
abbrev pub instruments_in : Entries → List Instrument
instruments_in [] = []
instruments_in (None ∷ entries) = instruments_in entries
instruments_in (Some instrument ∷ entries) = instrument ∷ instruments_in entries

-- why an entry isn't listed behind these instruments, if it isn't
abbrev pub unlisted_after : List Instrument → Option Instrument → Option Unlisted
unlisted_after listed None = Some NoInstrument
unlisted_after listed (Some instrument) = option_map Refused (refusal_after listed instrument)

-- the same, by what is answered to a line
abbrev pub why_in : ListedLine → Option Unlisted
why_in answers.Listed = None
why_in (answers.Refused refusal) = Some (Refused refusal)
why_in answers.NoSuchLine = Some NoInstrument

-- why the entry at a place isn't listed behind the instruments of those before it, if there is one and it isn't
abbrev pub unlisted_at : Entries → ℕ → Option Unlisted
unlisted_at entries place =
    option_and_then (unlisted_after (instruments_in (take place entries))) (slice_get entries place)

-- every entry is listed
pub record AreListed (entries : Entries) (listed : List Instrument) : Type 0 where
  pub all : listed ≡ instruments_in entries
  pub each : (place : ℕ) → unlisted_at entries place ≡ None

-- the entry at this place is the first that isn't listed
pub record IsFirstUnlisted (entries : Entries) (place : ℕ) (why : Unlisted) : Type 0 where
  pub why_is : unlisted_at entries place ≡ Some why
  pub before : (earlier : ℕ) → earlier < place → unlisted_at entries earlier ≡ None

-- A fault is the first entry that isn't listed, where the first of all has this number. Want of memory says nothing of
-- the entries.
abbrev pub IsListFault : ℕ → Entries → ListFault → Type 0
IsListFault first entries (faults.Unlisted number why) =
    (place : ℕ) × IsFirstUnlisted entries place why × (number ≡ first + place)
IsListFault first entries faults.Memory = Unit {0}
