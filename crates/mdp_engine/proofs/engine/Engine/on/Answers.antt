use Rattle.mdp_engine.proofs.Breaking.{takes_nothing}
use Rattle.mdp_engine.proofs.engine.Engine.on.Goals as goal

pub returns-in_err-still_sound-clause-takes : goal.returns-in_err-still_sound-clause-takes
returns-in_err-still_sound-clause-takes g c = takes_nothing _ _ c.from_residual.result c.args.self.now c.from_residual.ensures.1 c.in_err-still_sound.ensures.failed
