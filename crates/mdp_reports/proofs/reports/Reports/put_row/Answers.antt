use Rattle.mdp_reports.specs.Flat.{told_of_book}
use Rattle.mdp_reports.proofs.Flatting.{put_flat}
use Rattle.mdp_reports.proofs.reports.Reports.put_row.Goals as goal

pub invariant_of-self : goal.invariant_of-self
invariant_of-self g c =
    let told = told_of_book c.args.end c.args.slot c.args.name.now c.args.live.now in
    (put_flat c.self.inside.bytes.items c.put_told.new.bytes.items told.lines c.self.inside.rows.items c.put_told.new.rows.items c.self.inside.places.items c.put_told.new.places.items c.args.slot told.best told.top c.self.invariant c.in-Ok.ensures.bytes c.in-Ok.ensures.rows c.in-Ok.ensures.places).0

pub returns-clause-told : goal.returns-clause-told
returns-clause-told g c =
    let told = told_of_book c.args.end c.args.slot c.args.name.now c.args.live.now in
    rw (← c.self.view_is) (put_flat c.self.inside.bytes.items c.put_told.new.bytes.items told.lines c.self.inside.rows.items c.put_told.new.rows.items c.self.inside.places.items c.put_told.new.places.items c.args.slot told.best told.top c.self.invariant c.in-Ok.ensures.bytes c.in-Ok.ensures.rows c.in-Ok.ensures.places).1
