use Rattle.std.proofs.Common.{◌∙◌, ◌-◌, sym, arith, get_or, Some}
use Rattle.std.proofs.lemmas.Option.{slice_get-get_or}
use Rattle.mdp_templates.specs.declared.side.Found.TheVariants.{Nothing}
use Rattle.mdp_templates.proofs.Sides.{notes_here, notes_nothing, other_side, nowhere}
use Rattle.mdp_templates.proofs.side.note.Goals as goal
use Rattle.mdp_templates.proofs.side.note.Goals.{else-is_for-via-then-is_for+then-position-gt0+else-position-found, else-is_for-via-then-is_for+else-position-gt0, else-is_for-via-else-is_for}

pub returns-then-position-found : goal.returns-then-position-found
returns-then-position-found c =
    rw (c.and.ensures, c.in-Some.is) (notes_here c.args.kind c.in-Some.quote c.args.found.now (c.from-position.result - 1) (get_or c.args.found.now (c.from-position.result - 1) Nothing)
    (sym c.is_for.ensures ∙ c.if-is_for.true) (omega (arith, c.from-position.ensures, c.if-position-gt0.true))
    (slice_get-get_or c.args.found.now (c.from-position.result - 1) Nothing (omega (arith, c.if-position-found.true, c.if-position-gt0.true))))

pub returns-else-is_for : goal.returns-else-is_for
returns-else-is_for c = rw c.in-Some.is (notes_nothing c.args.kind (Some c.in-Some.quote) c.args.found.now (λ k inside. elim c.else-is_for.branch [
  | else-is_for-via-then-is_for+then-position-gt0+else-position-found w ↦ nowhere c.args.kind c.in-Some.quote k (λ at. omega (arith, inside, at, c.from-position.ensures, w.if-position-found.false))
  | else-is_for-via-then-is_for+else-position-gt0 w ↦ nowhere c.args.kind c.in-Some.quote k (λ at. omega (arith, at, c.from-position.ensures, w.if-position-gt0.false))
  | else-is_for-via-else-is_for w ↦ other_side c.args.kind c.in-Some.quote k (sym c.is_for.ensures ∙ w.if-is_for.false)
]))
