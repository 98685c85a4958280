-- What the moves show, moment by moment: at each event end what it shows of each listed security, and each jump. The
-- lines that are printed, the steps of a board and the reports of a worker are all read off these moments.
use Rattle.std.specs.Prelude.{Option, ℕ, List, [], ◌∷◌, ◌++◌, if◌then◌else◌, map}
use Rattle.std.specs.List.{flat_map}
use Rattle.mdp_templates.specs.declared.instrument.Instrument.{Instrument}
use Rattle.mdp_books.specs.declared.event_end.EventEnd.{EventEnd}
use Rattle.mdp_books.specs.Feed.{Sent, sent_in, end_at}
use Rattle.mdp_print.specs.Texts.{jump_line}
use Rattle.mdp_arbiter.specs.Machine.{Move}
use Rattle.mdp_arbiter.specs.Machine.Move.{passed, jumped}
use Rattle.mdp_desks.specs.Lines.{Seen, lines_as}
use Rattle.mdp_desks.specs.Shown.{Footing, SinceJump, since_after, since_through, seen_since}

-- an event ends; or recovery jumps from one number to a later one
pub data Moment : Type 0 where
  at_event_end : EventEnd → List (Option Seen) → Moment
  at_jump : ℕ → ℕ → Moment

-- the one of a message that ends an event, which shows this of the listed securities; none where it ends none
abbrev pub moment_at : Sent → List (Option Seen) → List Moment
moment_at m seen = if m.end then at_event_end (end_at m) seen ∷ [] else []

-- a walk over messages: what each shows where things stand so, and where they stand after it
pub record Walk (S : Type 0) : Type 0 where
  pub shows : Sent → S → List (Option Seen)
  pub goes : Sent → S → S

-- the moments of messages in turn, from where things stand so
abbrev pub moments_through : {S : Type 0} → Walk S → S → List Sent → List Moment
moments_through walk s [] = []
moments_through walk s (m ∷ ms) =
    moment_at m (walk.shows m s) ++ moments_through walk (walk.goes m s) ms

-- one message more
abbrev pub and_then : Sent → List Sent → List Sent
and_then m before = before ++ m ∷ []

-- from the last jump's footings on, where the messages passed since say how things stand
abbrev pub walk_from : List Footing → Walk (List Sent)
walk_from footings = record { shows = λ m before. map (seen_since before m) footings; goes = and_then }

abbrev pub moments_from : List Footing → List Sent → List Sent → List Moment
moments_from footings since ms = moments_through (walk_from footings) since ms

-- those of a move, and of moves one after another, where things stand so
abbrev pub moments_of : SinceJump → Move → List Moment
moments_of s (passed packet) = moments_from s.footings s.since (sent_in packet)
moments_of s (jumped old new snapshots) = at_jump old new ∷ []

abbrev pub moments_on : List Instrument → SinceJump → List Move → List Moment
moments_on listed s [] = []
moments_on listed s (m ∷ moves) = moments_of s m ++ moments_on listed (since_through listed s m) moves

-- those of moves that come after these ones
abbrev pub moments_after : List Instrument → List Move → List Move → List Moment
moments_after listed before moves = moments_on listed (since_after listed before) moves

abbrev pub moments : List Instrument → List Move → List Moment
moments listed moves = moments_after listed [] moves

-- batch by batch, where the first comes after these moves
abbrev pub moments_by : List Instrument → List Move → List (List Move) → List (List Moment)
moments_by listed before [] = []
moments_by listed before (batch ∷ batches) =
    moments_after listed before batch ∷ moments_by listed (before ++ batch) batches

-- ---- the lines

-- all lines of a moment
abbrev pub moment_text : Moment → List ℕ
moment_text (at_event_end end seen) = lines_as end seen
moment_text (at_jump old new) = jump_line old new

-- of one moment after another
abbrev pub text_of_moments : List Moment → List ℕ
text_of_moments ms = flat_map moment_text ms

-- the lines that these moves show
abbrev pub shown_lines : List Instrument → List Move → List ℕ
shown_lines listed moves = text_of_moments (moments listed moves)
