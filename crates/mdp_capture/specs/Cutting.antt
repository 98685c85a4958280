-- A text that comes piece by piece and is cut into lines, whatever is made of them.
use Rattle.std.specs.Prelude.{◌≡◌, ◌++◌, ◌∷◌, [], ℕ, List, eqb, false, All}
use Rattle.std.specs.Str.Lines.{lines}
use Rattle.mdp_capture.specs.Capture.{RefusedLine}

-- bytes with no line feed among them
abbrev pub IsOneLine : List ℕ → Type 0
IsOneLine bytes = All (λ byte. eqb byte 10 ≡ false) bytes

-- a text is these lines and what this rest of it begins, whatever follows
abbrev pub Cuts : List ℕ → List (List ℕ) → List ℕ → Type 0
Cuts text front rest = (more : List ℕ) → lines (text ++ more) ≡ front ++ lines (rest ++ more)

-- a text was cut into lines of which this is said, up to this rest of it
pub record CutsInto (Says : List (List ℕ) → Type 0) (text rest : List ℕ) : Type 0 where
  pub front : List (List ℕ)
  pub says : Says front
  pub cuts : Cuts text front rest

-- a text begins with these lines, whatever follows it
abbrev pub BeginsWithLines : List ℕ → List (List ℕ) → Type 0
BeginsWithLines text front = (rest : List ℕ) × Cuts text front rest

-- nothing was taken in, and the run is refused at this line
abbrev pub LeavesOutLine : (List (List ℕ) → Type 0) → (List ℕ → RefusedLine → Type 0) → List ℕ → RefusedLine → Type 0
LeavesOutLine Takes refuses line refused = Takes [] × refuses line refused

-- of some lines all but the last were taken in, and the run is refused at the last
pub record IsStopped (Are Takes : List (List ℕ) → Type 0) (refuses : List ℕ → RefusedLine → Type 0)
    (refused : RefusedLine) : Type 0 where
  pub front : List (List ℕ)
  pub line : List ℕ
  pub are : Are (front ++ line ∷ [])
  pub taken : Takes front
  pub is_refused : refuses line refused
