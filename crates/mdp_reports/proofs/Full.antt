-- Jumps that have a snapshot of each listed security, and desks before any move.
use Rattle.std.proofs.Common.{List, [], ◌∷◌, ◌++◌, map, refl}
use Rattle.mdp_templates.specs.declared.instrument.Instrument.{Instrument}
use Rattle.mdp_arbiter.specs.Machine.{Move}
use Rattle.mdp_arbiter.specs.Machine.Move.{passed, jumped}
use Rattle.mdp_desks.proofs.Showing.{shows_nothing}
use Rattle.mdp_desks.specs.Desks.{desk_at_start}
use Rattle.mdp_reports.specs.ReportLaw.{AreFull, LawOfFirstDesks, LawOfFullJumps}

pub law_of_full_jumps : LawOfFullJumps
law_of_full_jumps listed next [] ascend = tt
law_of_full_jumps listed next (passed packet ∷ moves) ascend = law_of_full_jumps listed _ moves ascend.2
law_of_full_jumps listed next (jumped old new snapshots ∷ moves) ascend = (ascend.0, law_of_full_jumps listed new moves ascend.1)

pub law_of_first_desks : LawOfFirstDesks
law_of_first_desks listed = shows_nothing listed (map desk_at_start listed) refl

-- the same of the first of these moves, and of those behind them
pub full_front : (listed : List Instrument) (moves more : List Move) → AreFull listed (moves ++ more) → AreFull listed moves
full_front listed [] more full = tt
full_front listed (passed packet ∷ moves) more full = full_front listed moves more full
full_front listed (jumped old new snapshots ∷ moves) more full = (full.0, full_front listed moves more full.1)

pub full_rest : (listed : List Instrument) (moves more : List Move) → AreFull listed (moves ++ more) → AreFull listed more
full_rest listed [] more full = full
full_rest listed (passed packet ∷ moves) more full = full_rest listed moves more full
full_rest listed (jumped old new snapshots ∷ moves) more full = full_rest listed moves more full.1
