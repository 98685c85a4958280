use Rattle.mdp_crew.specs.Answering.{IsWorking}
use Rattle.mdp_crew.specs.Shares.{share_in}
use Rattle.mdp_crew.proofs.worker.work.Given as goal

abbrev pub invariant-loop : goal.invariant-loop
invariant-loop g l = IsWorking (share_in l.fn.share) l.fn.ends l.working
