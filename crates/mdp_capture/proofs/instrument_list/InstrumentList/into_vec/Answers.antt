use Rattle.mdp_capture.proofs.Fit.{whole_is_fit}
use Rattle.mdp_capture.proofs.instrument_list.InstrumentList.into_vec.Goals as goal

pub returns-clause-fit : goal.returns-clause-fit
returns-clause-fit g c = rw (← c.self.view_is) (λ some. whole_is_fit c.self.inside.instruments.items some c.self.invariant)
