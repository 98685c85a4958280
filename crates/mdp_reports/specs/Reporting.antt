-- What the desks of a worker's securities report of moves: each jump, and at each event end the securities at its slots
-- that are printed there.
use Rattle.std.specs.Prelude.{ℕ, List, [], ◌∷◌, ◌++◌, fold, map}
use Rattle.mdp_books.specs.Feed.{Sent, sent_in}
use Rattle.mdp_arbiter.specs.Machine.{Move}
use Rattle.mdp_arbiter.specs.Machine.Move.{passed, jumped}
use Rattle.mdp_desks.specs.declared.desk.Desk.{Desk}
use Rattle.mdp_desks.specs.Desks.{desks_moment, passed_moments, passed_desks, rebased_desks, snapshots_at}
use Rattle.mdp_desks.specs.Reports.{Told, Report, of_jump, report_by}
use Rattle.mdp_reports.specs.Flat.{reports_with}

-- the last report, where it is of an event end, tells of these too
abbrev pub reports_with_all : List Told → List Report → List Report
reports_with_all ts reports = fold (λ (rs : List Report) (t : Told). reports_with t rs) reports ts

-- of a message, and message by message
abbrev pub reports_at : List ℕ → Sent → List Desk → List Report
reports_at slots m ds = map (report_by slots) (desks_moment m ds)

abbrev pub reports_passed : List ℕ → List Sent → List Desk → List Report
reports_passed slots ms ds = map (report_by slots) (passed_moments ms ds)

-- of a move
abbrev pub desks_after_move : List ℕ → Move → List Desk → List Desk
desks_after_move slots (passed packet) ds = passed_desks (sent_in packet) ds
desks_after_move slots (jumped old new snapshots) ds = rebased_desks (snapshots_at slots snapshots) ds

abbrev pub reports_of_move : List ℕ → Move → List Desk → List Report
reports_of_move slots (passed packet) ds = reports_passed slots (sent_in packet) ds
reports_of_move slots (jumped old new snapshots) ds = of_jump old new ∷ []

-- move by move
abbrev pub desks_after_moves : List ℕ → List Move → List Desk → List Desk
desks_after_moves slots [] ds = ds
desks_after_moves slots (m ∷ moves) ds = desks_after_moves slots moves (desks_after_move slots m ds)

abbrev pub reports_of_moves : List ℕ → List Move → List Desk → List Report
reports_of_moves slots [] ds = []
reports_of_moves slots (m ∷ moves) ds =
    reports_of_move slots m ds ++ reports_of_moves slots moves (desks_after_move slots m ds)
