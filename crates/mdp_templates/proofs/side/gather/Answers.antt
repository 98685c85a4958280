use Rattle.std.proofs.Common.{◌≡◌, ◌∙◌, ◌<◌, sym, ℕ, length, subst, arith}
use Rattle.mdp_templates.specs.Side.{AreShallow}
use Rattle.mdp_templates.proofs.Sides.{found_at, gathered_nothing, gathered_one, gapped, crowded, gathered_all}
use Rattle.mdp_templates.proofs.side.gather.Goals as goal
use Rattle.mdp_templates.proofs.side.gather.Goals.{in-Nothing, in-One}

pub returns-in-One-2-clause-bad : goal.returns-in-One-2-clause-bad
returns-in-One-2-clause-bad g c = λ told.
    let found = found_at c.args.kind c.args.quotes.now c.find_all-found.result c.loop-place.place _ c.find_all-found.ensures (omega arith) c.in-One-2.is in
    gapped c.args.kind c.args.quotes.now c.loop-place.place c.loop-place.side.items c.in-One-2.field-0 c.loop-place.invariant (λ full. c.if-len-place.false (c.len.ensures.value ∙ full)) found

pub returns-in-Many-clause-bad : goal.returns-in-Many-clause-bad
returns-in-Many-clause-bad g c = λ told.
    crowded c.args.kind c.args.quotes.now c.loop-place.place (found_at c.args.kind c.args.quotes.now c.find_all-found.result c.loop-place.place _ c.find_all-found.ensures (omega arith) c.in-Many.is)

pub loop-place-preserved : goal.loop-place-preserved
loop-place-preserved g c =
    let inside : c.loop-place.place < length c.find_all-found.result = omega arith in
    elim c.match-found-place.branch [
      | in-Nothing w ↦
          let found = found_at c.args.kind c.args.quotes.now c.find_all-found.result c.loop-place.place _ c.find_all-found.ensures inside w.in-Nothing.is in
          rw w.side-is (gathered_nothing c.args.kind c.args.quotes.now c.loop-place.place c.loop-place.side.items c.loop-place.invariant found)
      | in-One w ↦
          let found = found_at c.args.kind c.args.quotes.now c.find_all-found.result c.loop-place.place _ c.find_all-found.ensures inside w.in-One.is in
          rw (w.side-is, w.push.ensures.items) (gathered_one c.args.kind c.args.quotes.now c.loop-place.place c.loop-place.side.items w.in-One.level c.loop-place.invariant (sym w.len.ensures.value ∙ w.if-len-place.true) found)
    ]

pub returns-clause-whole : goal.returns-clause-whole
returns-clause-whole g c = λ told.
    let whole : c.loop-place.place ≡ g.row.DEPTH = omega arith in
    gathered_all c.args.kind c.args.quotes.now c.loop-place.place c.loop-place.side.items (subst (λ (d : ℕ). AreShallow c.args.kind d c.args.quotes.now) (sym whole) c.requires.shallow) c.loop-place.invariant
