-- What of a list of moments went out before an early end, as text and on a board. The board is never ahead of the text.
use Rattle.std.specs.Prelude.{◌≡◌, ℕ, List, [], ◌∷◌, ◌++◌, map}
use Rattle.mdp_lanes.specs.declared.step.Step.{Step}
use Rattle.mdp_desks.specs.Moments.{Moment, moment_text, text_of_moments}
use Rattle.mdp_reports.specs.BoardSteps.{step_of_moment}

-- the text of the first of these moments; where there is none, what stands after the text of all
abbrev pub next_text : List Moment → List ℕ → List ℕ
next_text [] end = end
next_text (m ∷ ms) end = moment_text m

-- Of the moments the first ones are written and published, those after them are written alone, and of the text that
-- comes next a part is written. `end` is what stands after the text of all moments.
pub record IsBehind (moments : List Moment) (end text : List ℕ) (steps : List Step) : Type 0 where
  pub published : List Moment
  pub written : List Moment
  pub later : List Moment
  pub moments_are : moments ≡ published ++ (written ++ later)
  pub part : List ℕ
  pub missing : List ℕ
  pub next_is : next_text later end ≡ part ++ missing
  pub text_is : text ≡ text_of_moments (published ++ written) ++ part
  pub steps_are : steps ≡ map step_of_moment published

-- The text is a beginning of the whole one, and the steps are a beginning of all.
abbrev pub LawOfEarlyEnds : Type 0
LawOfEarlyEnds = (moments : List Moment) (end text : List ℕ) (steps : List Step) → IsBehind moments end text steps
    → ((rest : List ℕ) × (text_of_moments moments ++ end ≡ text ++ rest))
    × ((rest : List Step) × (map step_of_moment moments ≡ steps ++ rest))
