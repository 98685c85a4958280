use Rattle.std.proofs.lemmas.Result.{err_from_is_err_and}
use Rattle.mdp_capture.proofs.Parts.{part_taken, part_refused}
use Rattle.mdp_capture.proofs.reading.Reading.take_part.Goals as goal

pub returns-in_err-add_lines-clause-refused : goal.returns-in_err-add_lines-clause-refused
returns-in_err-add_lines-clause-refused g c =
    let p = err_from_is_err_and c.from_residual.result c.from_residual.ensures.1 in
    let part = c.args.part in
    rw (p.1, p.2) (part_refused c.args.self.now c.args.text.now part.rest.now part.lines.items _ c.requires.none c.requires.is_read.says c.in_err-add_lines.ensures.refused)

pub returns-clause-taken : goal.returns-clause-taken
returns-clause-taken g c before taken =
    let part = c.args.part in
    let added = c.in_ok-add_lines.ensures in
    part_taken c.args.self.now (record { cutter = c.hold.new.self; draft = c.add_lines.new.self }) before c.args.text.now part.rest.now part.lines.items taken c.requires.none c.requires.is_read.says added.capture c.in_ok-hold.ensures
