-- The law of shares.
use Rattle.std.specs.Prelude.{◌≡◌, ℕ, Bool, List, map}
use Rattle.mdp_templates.specs.declared.instrument.Instrument.{Instrument}
use Rattle.mdp_arbiter.specs.Machine.{Move}
use Rattle.mdp_desks.specs.Moments.{moments_after}
use Rattle.mdp_desks.specs.Shares.{own_part, own_slots, own_moves}
use Rattle.mdp_desks.specs.Reports.{report_by, report_of}

-- a worker that has only its own securities and their snapshots reports its part of each moment of these moves,
-- whatever came before
abbrev pub LawOfShares : Type 0
LawOfShares = (mine : ℕ → Bool) (listed : List Instrument) (before moves : List Move)
    → map (report_by (own_slots mine 0 listed)) (moments_after (own_part mine 0 listed) (own_moves mine before)
    (own_moves mine moves)) ≡ map (report_of mine) (moments_after listed before moves)
