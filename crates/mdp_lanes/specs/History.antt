-- The rule of a board's history: the word that threads share is its length.
use Rattle.std.specs.Prelude.{ℕ, ◌≡◌, true, List, [], ◌∷◌, ◌++◌, length}
use Rattle.logbook.specs.Pages.{Cell, Step as Turn, View, Book, Named}
use Rattle.mdp_lanes.specs.declared.step.Step.{Step}

abbrev pub HasLength : List Cell → List Step → Type 0
HasLength cells steps = cells ≡ (length steps, true) ∷ (0, true) ∷ []

-- the word of this history
abbrev pub head_of : Book → Named
head_of book = record { tracked = true; key = 0; book = book }

-- where the history was as long as expected, the step stands behind all that was seen
abbrev pub Adds : Turn Step → View Step ℕ → ℕ → View Step ℕ → Type 0
Adds turn before found after = found ≡ turn.old → after.0 ≡ before.0 ++ turn.ask ∷ []
