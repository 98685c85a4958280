-- What a text says up to the first line that refuses the run, and how a longer text goes on from a shorter one.
use Rattle.std.specs.Prelude.{◌≡◌, ℕ, List, [], ◌∷◌, ◌++◌, length, take, Result, Ok, Err}
use Rattle.std.specs.Str.Lines.{lines}
use Rattle.mdp_capture.specs.Capture.{CaptureContent, RefusedLine, add_line, next_line, no_capture}
use Rattle.mdp_capture.specs.Line.{line_of}
use Rattle.mdp_capture.specs.Lines.{Brings, numbered_lines}
use Rattle.mdp_capture.specs.Refused.{IsFirstRefused, NoneRefuses}
use Rattle.mdp_capture.specs.declared.fault.CaptureRefusal.{CaptureRefusal}
use Rattle.mdp_capture.specs.declared.fault.CaptureRefusal.TheVariants.{InstrumentLate}

-- what follows on the capture behind a line, or the capture before it where the line refuses the run
abbrev pub unless_stopped : Result CaptureContent RefusedLine → CaptureContent
    → (CaptureContent → CaptureContent) → CaptureContent
unless_stopped (Ok behind) before next = next behind
unless_stopped (Err refused) before next = before

-- the capture with what these lines say, the first of which has this number, up to the first that refuses the run
abbrev pub front_from : ℕ → List (List ℕ) → CaptureContent → CaptureContent
front_from line [] capture = capture
front_from line (text ∷ rest) capture =
    unless_stopped (add_line line (line_of text) capture) capture (front_from (next_line line) rest)

-- the front of a text: the capture of its lines up to the first that refuses the run; every text has one
abbrev pub front_of : List ℕ → CaptureContent
front_of text = front_from 1 (lines text) no_capture

-- a front in the format's own words: what the lines before the first that refuses the run bring, or all where none does
pub data IsFrontOf (text : List ℕ) (front : CaptureContent) : Type 0 where
  of_all : NoneRefuses (numbered_lines text) (length (numbered_lines text)) → Brings (numbered_lines text) front
      → IsFrontOf text front
  before_first : (line : ℕ) (refusal : CaptureRefusal) (first : IsFirstRefused (numbered_lines text) line refusal)
      → Brings (take first.place (numbered_lines text)) front → IsFrontOf text front

-- a list begins with another
abbrev pub BeginsWith : {X : Type 0} → List X → List X → Type 0
BeginsWith {X} whole front = (rest : List X) × (whole ≡ front ++ rest)

-- each list of a capture begins with that of another
pub record GoesOnFrom (front whole : CaptureContent) : Type 0 where
  pub instruments : BeginsWith whole.instruments front.instruments
  pub a : BeginsWith whole.a front.a
  pub b : BeginsWith whole.b front.b
  pub s : BeginsWith whole.s front.s
  pub skipped : BeginsWith whole.skipped front.skipped

-- what may come behind a capture's first record: more records and skipped lines, or an instrument that is late
abbrev pub FollowsRecords : CaptureContent → Result CaptureContent RefusedLine → Type 0
FollowsRecords front (Ok whole) = GoesOnFrom front whole × (whole.instruments ≡ front.instruments)
FollowsRecords front (Err refused) = refused.refusal ≡ InstrumentLate
