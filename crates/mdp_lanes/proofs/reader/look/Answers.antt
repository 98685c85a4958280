use Rattle.std.proofs.Common.{◌≡◌, ◌<◌, ◌≤◌, All, List, length, ap, sym, ◌∙◌, subst, arith}
use mathlib.Core.List.{IsPrefix}
use Rattle.mdp_lanes.specs.declared.step.Step.{Step}
use Rattle.mdp_lanes.specs.Rows.{rows_after}
use Rattle.mdp_lanes.specs.Boards.{AreRowsAfter}
use Rattle.mdp_lanes.proofs.Fronts.{front_of_longer}
use Rattle.mdp_lanes.proofs.SheetSteps.{copied_are}
use Rattle.mdp_lanes.proofs.BoardSteps.{looks}
use Rattle.mdp_lanes.proofs.reader.look.Goals as goal

pub enter_as-requires : goal.enter_as-requires
enter_as-requires g c x = looks _ _ x

pub returns-clause-front : goal.returns-clause-front
returns-clause-front g c =
    let sheet = c.get-sheet.result.now in
    let same = c.get-sheet.ensures in
    let found = c.in-Ok.ensures.1 in
    let again = c.again.ensures in
    let count : sheet.length ≡ length sheet.front.log = rw same found.1.1 in
    let board : sheet.front.book ≡ c.args.front.now.book = ap (λ s. s.front.book) same ∙ (sym (found.2.1 c.requires.some) ∙ c.requires.board) in
    let both : List Step = c.learn.new.self.log in
    let front : IsPrefix c.args.front.now.log both = subst (λ (steps : List Step). IsPrefix steps both) (ap (λ f. f.log) c.again-both.ensures) c.learn.ensures.2 in
    let less : length c.args.front.now.log ≤ length sheet.front.log = omega (arith, count, c.requires.count, c.if-sheet-count.false) in (
      ap (λ f. f.book) again ∙ board,
      count ∙ ap (λ f. length f.log) (sym again),
      subst (λ f. IsPrefix c.args.front.now.log f.log) (sym again) (front_of_longer c.args.front.now.log sheet.front.log both front c.learn.ensures.3 less),
    )

pub returns-clause-rows : goal.returns-clause-rows
returns-clause-rows g c =
    let sheet = c.get-sheet.result.now in
    let found = c.in-Ok.ensures.1 in
    let are : AreRowsAfter sheet.rows.items sheet.front.log = rw c.get-sheet.ensures found.1.0 in
    let within : All (λ slot. slot < length sheet.rows.items) c.args.slots.now =
    λ k d lt. omega (arith, c.requires.slots k d lt, found.2.0, ap (λ s. length s.rows.items) c.get-sheet.ensures) in
    c.copy_rows.ensures
    ∙ (rw c.as_slice.ensures.value (copied_are sheet.rows.items c.args.slots.now sheet.front.log are within)
    ∙ ap (λ f. rows_after c.args.slots.now f.log) (sym c.again.ensures))
