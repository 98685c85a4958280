use Rattle.std.proofs.Common.{◌≡◌, drop}
use Rattle.mdp_arbiter.specs.Fates.{first_stale, first_stale_from}
use Rattle.mdp_arbiter.specs.Fronts.{Leads}
use Rattle.mdp_arbiter.proofs.fresh_front.FreshFront.first_stale.Given as goal

-- what was looked at is known, and the first of all is the first of those that are left
abbrev pub invariant-loop-slot : goal.invariant-loop-slot
invariant-loop-slot l = record {
  known : l.self.count ≡ l.slot;
  leads : Leads l.self l.newest;
  stale : first_stale_from l.slot l.room l.top (drop l.slot l.newest) ≡ first_stale l.room l.top l.newest;
}
