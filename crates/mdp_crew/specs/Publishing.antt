-- What stands on a board once more steps are published on it.
use Rattle.std.specs.Prelude.{◌++◌, List, Option, Some, None}
use Rattle.mdp_lanes.specs.Boards.{Published}
use Rattle.mdp_lanes.specs.declared.step.Step.{Step}

-- the board after these steps more; where there is none, none
abbrev pub published_on : Option Published → List Step → Option Published
published_on None steps = None
published_on (Some p) steps = Some (record p { steps = p.steps ++ steps })
