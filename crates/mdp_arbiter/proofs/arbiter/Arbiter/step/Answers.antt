use Rattle.mdp_arbiter.proofs.Standings.{steps_as, channel_after, raises_next}
use Rattle.mdp_arbiter.proofs.arbiter.Arbiter.step.Goals as goal

pub returns-clause-channel : goal.returns-clause-channel
returns-clause-channel g c = channel_after _ _ _ c.take_step.ensures.moves

pub returns-clause-steps : goal.returns-clause-steps
returns-clause-steps g c = λ es s. steps_as es _ _ _ s c.take_step.ensures.answers c.take_step.ensures.moves

pub returns-clause-raises : goal.returns-clause-raises
returns-clause-raises g c = raises_next _ _ _ _ c.take_step.ensures.answers c.take_step.ensures.moves
