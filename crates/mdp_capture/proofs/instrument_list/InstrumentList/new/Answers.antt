use Rattle.mdp_capture.proofs.Fit.{fit_at_first}
use Rattle.mdp_capture.proofs.instrument_list.InstrumentList.new.Goals as goal

pub invariant_of-result : goal.invariant_of-result
invariant_of-result g c = rw c.new.ensures.items fit_at_first
