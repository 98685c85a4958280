use Rattle.std.proofs.Common.{◌≡◌, ◌++◌, take}
use Rattle.mdp_crew.proofs.publishing.publish_all.Given as goal

abbrev pub invariant-loop-n : goal.invariant-loop-n
invariant-loop-n g l = l.publisher ≡ record l.fn.publisher { steps = l.fn.publisher.steps ++ take l.n l.fn.steps }
