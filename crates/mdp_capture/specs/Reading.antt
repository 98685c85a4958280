-- Reading a capture piece by piece: each piece goes on with what was read before, wherever it ends.
use Rattle.std.specs.Prelude.{ℕ, List, ◌++◌}
use Rattle.mdp_capture.specs.Capture.{IsTextFaultOf, capture_of}
use Rattle.mdp_capture.specs.Cutting.{CutsInto}
use Rattle.mdp_capture.specs.Draft.{HoldsLines}
use Rattle.mdp_capture.specs.declared.fault.CaptureFault.{CaptureFault}
use Rattle.mdp_capture.specs.declared.reading.Reading.{Reading}

-- a text was read: its lines are held, but for the last, which has no line feed and is pending
abbrev pub HasRead : {A : Type 0} → Reading A → List ℕ → Type 0
HasRead reading text = CutsInto (HoldsLines reading.draft) text reading.cutter

-- a piece was taken in: what had read a text has read the text and the piece
abbrev pub TakesPiece : {A : Type 0} → Reading A → List ℕ → Reading A → Type 0
TakesPiece old piece new = (text : List ℕ) → HasRead old text → HasRead new (text ++ piece)

-- a piece was not taken in: a refusal is that of each text that goes on with it
abbrev pub RefusesPiece : {A : Type 0} → Reading A → List ℕ → CaptureFault → Type 0
RefusesPiece old piece fault =
    (text more : List ℕ) → HasRead old text → IsTextFaultOf (capture_of ((text ++ piece) ++ more)) fault
