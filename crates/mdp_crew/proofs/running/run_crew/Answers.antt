use Rattle.mdp_crew.specs.Batches.{events_taken}
use Rattle.mdp_crew.specs.Plan.{channel_in}
use Rattle.mdp_crew.specs.declared.fault.RunFault.TheVariants.{Memory}
use Rattle.mdp_crew.proofs.Together.{shown_nothing}
use Rattle.mdp_crew.proofs.running.run_crew.Goals as goal

pub returns-in-Err-clause-shows : goal.returns-in-Err-clause-shows
returns-in-Err-clause-shows g c = shown_nothing (channel_in c.args.plan) (events_taken c.drain.new.receiver.taken) (g.W.CountedWrite.taken c.args.writer.now) c.args.board.now (Memory 0)
