use Rattle.mdp_capture.proofs.Drafts.{read_none}
use Rattle.mdp_capture.proofs.reading.Reading.new.Goals as goal

pub returns : goal.returns
returns g c =
    let made = c.new-2.ensures in
    read_none {A = g.row.A.Denot} (record { cutter = c.new.result; draft = c.new-2.result }) c.new.ensures made.line made.nothing
