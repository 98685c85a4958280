use Rattle.std.proofs.Common.{◌≡◌, ◌≤◌, drop, fold, length, [], ◌∷◌, ap, sym, ◌∙◌, arith}
use Rattle.left_right.specs.Sides.{view}
use Rattle.mdp_lanes.specs.Updates.{face, next_face}
use Rattle.mdp_lanes.specs.Boards.{knower}
use Rattle.mdp_lanes.proofs.BoardSteps.{shows_again, pends_alone, went_well}
use Rattle.mdp_lanes.proofs.board.settle.Goals as goal

pub publish_as-writer-requires : goal.publish_as-writer-requires
publish_as-writer-requires g c next is =
    let writer = c.append.new.self in
    let update = c.unchanged-update.result in
    let shown = writer.desk.shown.value in
    let same = ap (λ d. d.shown.value) c.append.ensures.desk in
    let unchanged = c.unchanged-update.ensures in
    let alone : drop writer.behind writer.log.items ≡ update ∷ [] =
    pends_alone c.append.result _ _ update (sym c.is_err.ensures.value ∙ c.if-is_err.false) c.append.ensures.pending c.requires.pending in
    shows_again _ _ shown next update unchanged.rows
    (unchanged.none.1 ∙ sym (ap (λ s. s.front) same ∙ c.requires.front.0))
    (unchanged.none.0 ∙ sym (ap (λ s. s.length) same ∙ c.requires.shown.0)) (is ∙ ap (fold next_face (face shown)) alone)

pub returns : goal.returns
returns g c =
    let writer = c.append.new.self in
    let update = c.unchanged-update.result in
    let shown = writer.desk.shown.value in
    let after = c.publish_as-writer.result.0 in
    let same = ap (λ d. d.shown.value) c.append.ensures.desk in
    let well = c.publish_as-writer.ensures.succeeds tt in
    let alone : drop writer.behind writer.log.items ≡ update ∷ [] =
    pends_alone c.append.result _ _ update (sym c.is_err.ensures.value ∙ c.if-is_err.false) c.append.ensures.pending c.requires.pending in
    let values = went_well _ _ c.publish_as-writer.result.1 well c.publish_as-writer.ensures.values in
    let seen = went_well _ _ c.publish_as-writer.result.1 well c.publish_as-writer.ensures.rule in
    let is : face after.desk.shown.value ≡ next_face (face shown) update = values.0 ∙ ap (fold next_face (face shown)) alone in
    let front : after.desk.shown.value.front ≡ c.args.front.now = ap (λ f. f.front) is ∙ c.unchanged-update.ensures.none.1 in
    let rows : after.desk.shown.value.rows.items ≡ shown.rows.items = ap (λ f. f.rows) is ∙ c.unchanged-update.ensures.rows shown.rows.items in
    let many : length after.desk.shown.value.rows.items ≡ c.args.slots = ap length rows ∙ (ap (λ s. length s.rows.items) same ∙ c.requires.shown.1) in
    let knows : view after.desk.place ≡ knower after.desk.shown.value = seen.0 in
    let slots : c.args.slots ≤ (view after.desk.place).slots = omega (arith, many, ap (λ v. v.slots) knows) in
    (front, values.1, (ap (λ v. v.front.book) knows ∙ ap (λ f. f.book) front, slots), many, seen.1)
