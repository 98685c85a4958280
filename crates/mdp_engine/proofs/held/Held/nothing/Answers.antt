use Rattle.std.proofs.Common.{refl, ◌∙◌}
use Rattle.mdp_engine.proofs.Keeping.{none_at_first}
use Rattle.mdp_engine.proofs.held.Held.nothing.Goals as goal

pub returns-clause-changed : goal.returns-clause-changed
returns-clause-changed g c = c.in_ok-none.ensures ∙ none_at_first c.args.instruments.now _ refl
