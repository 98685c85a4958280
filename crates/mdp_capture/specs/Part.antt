-- What a part of a text says by itself, whatever stands before it and behind it.
use Rattle.std.specs.Prelude.{◌≡◌, ◌-◌, ℕ, List, [], ◌∷◌, Option, None, Some, Result, Ok, IfOk, length, map, All}
use denote.Ref.{Bor}
use Rattle.std.specs.List.{flat_map, slice_get}
use Rattle.mdp_capture.specs.Capture.{CaptureContent, RefusedLine, add_line, and_then, next_line}
use Rattle.mdp_capture.specs.Line.{LineContent, line_of}
use Rattle.mdp_capture.specs.Parsed.{ListsDepth, content_of}
use Rattle.mdp_capture.specs.Cutting.{Cuts, IsOneLine}
use Rattle.mdp_capture.specs.Draft.{capture_so_far}
use Rattle.mdp_capture.specs.Repeats.{bytes_in}
use Rattle.mdp_capture.specs.declared.draft.Draft.{Draft}
use Rattle.mdp_capture.specs.declared.line.Line.{Line}
use Rattle.mdp_capture.specs.declared.part.Part.{Part}

-- what these lines say, in their order
abbrev pub contents_of : {A : Type 0} → List (Line A) → List LineContent
contents_of read = map content_of read

-- the capture with what these lines say, the first of which has this number
abbrev pub add_contents : ℕ → List LineContent → CaptureContent → Result CaptureContent RefusedLine
add_contents line [] capture = Ok capture
add_contents line (content ∷ rest) capture =
    and_then (add_line line content capture) (add_contents (next_line line) rest)

-- the capture that these contents of lines make of one that is being read
abbrev pub capture_after : {A : Type 0} → Draft A → List LineContent → Result CaptureContent RefusedLine
capture_after draft contents = add_contents draft.line contents (capture_so_far draft)

-- a text is lines that say this, and what this rest of it begins, whatever follows
pub record Says {A : Type 0} (text : List ℕ) (read : List (Line A)) (rest : List ℕ) : Type 0 where
  pub front : List (List ℕ)
  pub contents : map line_of front ≡ contents_of read
  pub cuts : Cuts text front rest

-- the instruments among these lines have depths of their kinds
abbrev pub ListDepths : {A : Type 0} → List (Line A) → Type 0
ListDepths read = All (λ line. ListsDepth (content_of line)) read

abbrev pub bytes_of_line : {A : Type 0} → Option (Line A) → Option (List ℕ)
bytes_of_line None = None
bytes_of_line (Some line) = bytes_in (content_of line)

-- the bytes of the last of these lines, where it brings a datagram
abbrev pub newest_in : {A : Type 0} → List (Line A) → Option (List ℕ)
newest_in read = bytes_of_line (slice_get read (length read - 1))

-- bytes of the last of these lines are those that this text brings
abbrev pub HasBytesIn : {A : Type 0} → List (Line A) → List ℕ → Type 0
HasBytesIn read text = (bytes : List ℕ) → newest_in read ≡ Some bytes → bytes_in (line_of text) ≡ Some bytes

-- the texts of parts, one behind the other
abbrev pub joined : List (Bor (List ℕ)) → List ℕ
joined texts = flat_map (λ (text : Bor (List ℕ)). text.now) texts

-- a part says what its text says
pub record IsReadOf {A : Type 0} (text : List ℕ) (part : Part A) : Type 0 where
  pub says : Says text part.lines.items part.rest.now
  pub depths : ListDepths part.lines.items
  pub unfinished : IsOneLine part.rest.now

-- each of these answers is the part of the text at its place, unless memory ran out
abbrev pub AreReadOf : {A E : Type 0} → List (Bor (List ℕ)) → List (Result (Part A) E) → Type 0
AreReadOf [] [] = Unit {0}
AreReadOf [] (answer ∷ answers) = ⊥
AreReadOf (text ∷ texts) [] = ⊥
AreReadOf (text ∷ texts) (answer ∷ answers) = IfOk answer (IsReadOf text.now) × AreReadOf texts answers
