-- Which lines are kept of moments.
use Rattle.std.specs.Prelude.{ℕ, List, [], Bool, if◌then◌else◌}
use Rattle.mdp_desks.specs.Moments.{Moment, text_of_moments}

-- their lines, where lines are kept at all
abbrev pub kept_lines : Bool → List Moment → List ℕ
kept_lines keeps moments = if keeps then text_of_moments moments else []
