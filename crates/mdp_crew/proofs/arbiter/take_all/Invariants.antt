use Rattle.mdp_crew.specs.Arbitrating.{SendsMore, sending}
use Rattle.mdp_crew.specs.Batches.{HasTakenMore, events_taken}
use Rattle.mdp_crew.proofs.arbiter.take_all.Given as goal

-- all moves of what was taken so far were sent
abbrev pub invariant-loop : goal.invariant-loop
invariant-loop g l = record {
  takes : HasTakenMore l.initial.receiver l.receiver;
  sends : SendsMore (sending (events_taken l.initial.receiver.taken) l.initial.senders l.initial.arbiter) (sending (events_taken l.receiver.taken) l.senders l.arbiter);
}
