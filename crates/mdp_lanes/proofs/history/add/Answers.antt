use Rattle.std.proofs.Common.{sym, ◌∙◌, ap}
use Rattle.mdp_lanes.specs.Updates.{step_of}
use Rattle.mdp_lanes.proofs.HistorySteps.{add_goes}
use Rattle.mdp_lanes.proofs.history.add.Goals as goal

pub compare_exchange-found-requires : goal.compare_exchange-found-requires
compare_exchange-found-requires g c =
    let head = c.requires.head in
    let book = ap (λ w. w.book) head in
    let offer = c.plain-offer.ensures in
    let pen = c.no_pen-pen.ensures in (
      ap (λ w. w.tracked) head,
      sym book,
      pen.0 ∙ sym book,
      offer.0,
      rw (ap (λ w. w.key) head, pen.1, offer.1, offer.3)
          (add_goes c.args.front.now.log (step_of c.args.change.now) c.args.count (sym c.requires.count.0)),
    )
