use Rattle.mdp_crew.specs.Batches.{HasTakenMore}
use Rattle.mdp_crew.proofs.arbiter.drain.Given as goal

abbrev pub invariant-loop : goal.invariant-loop
invariant-loop g l = record { takes : HasTakenMore l.initial.receiver l.receiver }
