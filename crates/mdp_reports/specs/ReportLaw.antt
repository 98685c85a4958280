-- The laws of reports: the desks of a worker's own securities report the worker's part of each moment.
use Rattle.std.specs.Prelude.{◌≡◌, ℕ, Bool, List, [], ◌∷◌, ◌++◌, length, map, ⊤}
use Rattle.mdp_templates.specs.declared.instrument.Instrument.{Instrument}
use Rattle.mdp_arbiter.specs.Machine.{Move}
use Rattle.mdp_arbiter.specs.Machine.Move.{passed, jumped}
use Rattle.mdp_desks.specs.declared.desk.Desk.{Desk}
use Rattle.mdp_desks.specs.Desks.{desk_at_start}
use Rattle.mdp_desks.specs.Moments.{moments, moments_after}
use Rattle.mdp_desks.specs.Reports.{report_of}
use Rattle.mdp_desks.specs.Shares.{own_part, own_slots, own_moves}
use Rattle.mdp_desks.specs.Shows.{Shows}
use Rattle.mdp_reports.specs.RoundLaws.{Ascend}
use Rattle.mdp_reports.specs.Reporting.{desks_after_moves, reports_of_moves}

-- each jump has a snapshot of each listed security
abbrev pub AreFull : List Instrument → List Move → Type 0
AreFull listed [] = ⊤
AreFull listed (passed packet ∷ moves) = AreFull listed moves
AreFull listed (jumped old new snapshots ∷ moves) = (length snapshots ≡ length listed) × AreFull listed moves

-- these desks of the listed securities stand where these moves show them
abbrev pub StandBehind : List Instrument → List Move → List Desk → Type 0
StandBehind listed moves desks = Shows listed moves desks (moments listed moves)

-- Where the desks of one's own securities stand behind the moves before, each with its own securities' snapshots alone,
-- what they report of more moves is one's part of each moment, and they stand behind those too.
abbrev pub LawOfReports : Type 0
LawOfReports = (mine : ℕ → Bool) (listed : List Instrument) (before moves : List Move) (desks : List Desk)
    → AreFull listed moves → StandBehind (own_part mine 0 listed) (own_moves mine before) desks
    → (reports_of_moves (own_slots mine 0 listed) moves desks
    ≡ map (report_of mine) (moments_after listed before moves))
    × StandBehind (own_part mine 0 listed) (own_moves mine (before ++ moves))
    (desks_after_moves (own_slots mine 0 listed) moves desks)

-- moves that ascend, as the recovery machine's do, have in each jump a snapshot of each listed security
abbrev pub LawOfFullJumps : Type 0
LawOfFullJumps =
    (listed : List Instrument) (next : ℕ) (moves : List Move) → Ascend listed next moves → AreFull listed moves

-- new desks stand behind no moves
abbrev pub LawOfFirstDesks : Type 0
LawOfFirstDesks = (listed : List Instrument) → StandBehind listed [] (map desk_at_start listed)
