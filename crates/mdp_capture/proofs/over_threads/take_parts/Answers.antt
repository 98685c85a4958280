use Rattle.std.proofs.Common.{◌≡◌, ◌++◌, ◌+◌, ◌∷◌, [], ℕ, List, Bor, slice_index_or, length, drop, refl, sym, ap, ◌∙◌, arith, append_assoc, append-nil, subst, rules, vec_len}
use Rattle.std.specs.Vec.Iter.{into_iter_items}
use Rattle.std.proofs.lemmas.Result.{err_from_is_err_and}
use Rattle.mdp_capture.specs.Capture.{capture_of}
use Rattle.mdp_capture.specs.Part.{AreReadOf, IsReadOf, joined}
use Rattle.mdp_capture.specs.Reading.{HasRead}
use Rattle.mdp_capture.proofs.Parts.{next_at, none_left, read_there, two_parts}
use Rattle.mdp_capture.proofs.Pieces.{same_fault}
use Rattle.mdp_capture.proofs.over_threads.take_parts.Goals as goal

pub loop-part-init : goal.loop-part-init
loop-part-init g c =
    let gives = c.into_iter-part-iterator.ensures.into_iter_gives in
    let count : vec_len c.args.parts ≡ length c.args.parts.items = search rules in
    record {
      taken = λ text taken. (text, taken, refl);
      read = rw gives.0 c.requires;
      left = gives.1 ∙ count ∙ ap length (sym gives.0);
    }

pub take_part-requires : goal.take_part-requires
take_part-requires g c =
    let at = c.loop-part in
    let texts = c.args.texts.now in
    let none : Bor (List ℕ) = record { ref_ptr = (0, 0); now = [] } in
    let further = into_iter_items c.next.new.self in
    let here : AreReadOf (drop at.number texts) (c.in-Some.part ∷ further) = rw c.in-Some.ensures.steps.0 at at.invariant.read in
    let next = next_at texts at.number none c.in-Some.part further here in
    read_there c.in-Some.part c.in_ok-part.part (IsReadOf (slice_index_or texts at.number none).now) c.in_ok-part.was next.read

pub returns-in_err-take_part-clause-refused : goal.returns-in_err-take_part-clause-refused
returns-in_err-take_part-clause-refused g c =
    let p = err_from_is_err_and c.from_residual-in_err-take_part.result c.from_residual-in_err-take_part.ensures.1 in
    let at = c.loop-part in
    let texts = c.args.texts.now in
    let none : Bor (List ℕ) = record { ref_ptr = (0, 0); now = [] } in
    let further = into_iter_items c.next.new.self in
    let here : AreReadOf (drop at.number texts) (c.in-Some.part ∷ further) = rw c.in-Some.ensures.steps.0 at at.invariant.read in
    let next = next_at texts at.number none c.in-Some.part further here in
    let behind = joined (drop (at.number + 1) texts) in
    let this = (slice_index_or texts at.number none).now in
    rw (p.1, p.2) (λ text more taken.
    let before = at.invariant.taken text taken in
    same_fault _ _ _
    (ap capture_of (two_parts before.0 this behind more (text ++ joined texts) (ap (λ (t : List ℕ). before.0 ++ t) (sym next.is) ∙ before.2)))
    (c.in_err-take_part.ensures.refused before.0 (behind ++ more) before.1))

pub loop-part-preserved : goal.loop-part-preserved
loop-part-preserved g c =
    let at = c.loop-part in
    let texts = c.args.texts.now in
    let none : Bor (List ℕ) = record { ref_ptr = (0, 0); now = [] } in
    let further = into_iter_items c.next.new.self in
    let steps = c.in-Some.ensures.steps in
    let here : AreReadOf (drop at.number texts) (c.in-Some.part ∷ further) = rw steps.0 at at.invariant.read in
    let next = next_at texts at.number none c.in-Some.part further here in
    let behind = joined (drop (at.number + 1) texts) in
    let this = (slice_index_or texts at.number none).now in
    record {
      taken = λ text taken.
          let before = at.invariant.taken text taken in (
            before.0 ++ this,
            c.in_ok-take_part.ensures.taken before.0 before.1,
            append_assoc before.0 this behind ∙ ap (λ (t : List ℕ). before.0 ++ t) (sym next.is) ∙ before.2,
          );
      read = next.further;
      left =
          let was = at.invariant.left in
          let gone = steps.1 in
          let short = ap length steps.0 in
          omega arith;
    }

pub returns-clause-taken : goal.returns-clause-taken
returns-clause-taken g c text taken =
    let at = c.loop-part in
    let before = at.invariant.taken text taken in
    let left = joined (drop at.number c.args.texts.now) in
    let none : left ≡ [] = none_left (drop at.number c.args.texts.now) (into_iter_items at.part-iterator) at.invariant.read (sym at.invariant.left ∙ c.in-None.ensures.steps.0) in
    let is : before.0 ≡ text ++ joined c.args.texts.now = sym (append-nil before.0) ∙ ap (λ (t : List ℕ). before.0 ++ t) (sym none) ∙ before.2 in
    subst (HasRead at.reading) is before.1
