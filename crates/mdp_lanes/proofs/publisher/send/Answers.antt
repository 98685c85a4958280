use Rattle.std.proofs.Common.{◌≡◌, drop, fold, [], ◌∷◌, ap, sym, ◌∙◌}
use Rattle.mdp_lanes.specs.Updates.{face, next_face}
use Rattle.mdp_lanes.specs.Boards.{Continues}
use Rattle.mdp_lanes.proofs.BoardSteps.{publishes, pends_alone}
use Rattle.mdp_lanes.proofs.publisher.send.Goals as goal

pub publish_as-requires : goal.publish_as-requires
publish_as-requires g c next is =
    let writer = c.append.new.self in
    let update = c.args.update in
    let shown = writer.desk.shown.value in
    let alone : drop writer.behind writer.log.items ≡ update ∷ [] =
    pends_alone c.append.result _ _ update (sym c.is_err.ensures.value ∙ c.if-is_err.false) c.append.ensures.pending c.requires.pending in
    let on : Continues shown update = rw c.append.ensures.desk c.requires.continues in
    publishes _ _ shown next update on (is ∙ ap (fold next_face (face shown)) alone)
