use Rattle.mdp_session.specs.Listing.{entries_of_array}
use Rattle.mdp_session.proofs.Fronts.{ListsFront}
use Rattle.mdp_session.proofs.array.list_array.Given as goal

abbrev pub invariant-loop-place : goal.invariant-loop-place
invariant-loop-place l = ListsFront (entries_of_array l.listed) l.place l.list
