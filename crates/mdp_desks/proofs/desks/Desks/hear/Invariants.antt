use Rattle.std.proofs.Common.{◌≡◌, ◌+◌, drop}
use Rattle.mdp_desks.specs.Desks.{desks_through}
use Rattle.mdp_desks.proofs.desks.Desks.hear.Given as goal

-- the entries that are left make of the desks what all make of those at first
abbrev pub invariant-loop-n : goal.invariant-loop-n
invariant-loop-n g l = desks_through l.end.packet l.end.message (l.n + 1) (drop l.n l.entries) l.self ≡ desks_through l.end.packet l.end.message 1 l.entries l.initial.self
