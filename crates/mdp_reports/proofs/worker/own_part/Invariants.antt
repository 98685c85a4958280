use Rattle.std.proofs.Common.{◌≡◌, ◌++◌, drop}
use Rattle.mdp_desks.specs.Shares.{is_kept_by, own_part, own_slots}
use Rattle.mdp_reports.proofs.worker.own_part.Given as goal

-- the securities and slots so far, with those of the ones that are left, are all
abbrev pub invariant-loop-slot : goal.invariant-loop-slot
invariant-loop-slot g l = record {
  slots : l.slots.items ++ own_slots (is_kept_by l.count l.number) l.slot (drop l.slot l.listed) ≡ own_slots (is_kept_by l.count l.number) 0 l.listed;
  securities : l.securities.items ++ own_part (is_kept_by l.count l.number) l.slot (drop l.slot l.listed) ≡ own_part (is_kept_by l.count l.number) 0 l.listed;
}
