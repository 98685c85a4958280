use Rattle.std.proofs.Common.{◌≡◌}
use Rattle.crossbeam_channel.specs.Claims.{view, IsSeatAt}
use Rattle.crossbeam_channel.specs.Ends.{receives_on}
use Rattle.mdp_lanes.proofs.retry.receive.Given as goal

-- nothing was received so far
abbrev pub invariant-loop : goal.invariant-loop
invariant-loop g l = IsSeatAt (receives_on l.channel) l.pass × (l.pass.id ≡ l.initial.pass.id) × (view l.pass ≡ view l.initial.pass)
