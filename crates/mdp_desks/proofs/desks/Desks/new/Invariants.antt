use Rattle.std.proofs.Common.{◌≡◌, take, map}
use Rattle.mdp_desks.specs.Desks.{desk_at_start}
use Rattle.mdp_desks.proofs.desks.Desks.new.Given as goal

-- the first securities have their desks
abbrev pub invariant-loop-instrument : goal.invariant-loop-instrument
invariant-loop-instrument g l = record {
  desks : l.desks.items ≡ map desk_at_start (take l.instrument-index l.instruments);
}
