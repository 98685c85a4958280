use Rattle.std.proofs.Common.{◌≡◌, Some, ap, sym, ◌∙◌, arith}
use Rattle.std.specs.Prelude.{slice_get}
use Rattle.mdp_session.specs.Listing.{entries_of_array}
use Rattle.mdp_session.proofs.Fronts.{array_past, array_there, lists_all, lists_more, stops_there}
use Rattle.mdp_session.proofs.array.list_array.Goals as goal

pub loop-place-preserved : goal.loop-place-preserved
loop-place-preserved c =
    let listed = c.args.listed.now in
    let place = c.loop-place.place in
    let entry = c.instrument_in.result in
    let there : slice_get (entries_of_array listed) place ≡ Some entry = array_there listed place _ c.loop-place-test.true ∙ ap Some (sym c.instrument_in.ensures.instrument) in
    rw c.in_ok-why.ensures.list (lists_more (entries_of_array listed) place c.loop-place.list entry there (sym c.in_ok-why.ensures.answer ∙ c.in-None.is) c.loop-place.invariant)

pub returns-clause-listed : goal.returns-clause-listed
returns-clause-listed c =
    let listed = c.args.listed.now in
    lists_all (entries_of_array listed) c.loop-place.place c.loop-place.list (array_past listed c.loop-place.place c.loop-place-test.false) c.loop-place.invariant

pub returns-in-Some-clause-fault : goal.returns-in-Some-clause-fault
returns-in-Some-clause-fault c =
    let listed = c.args.listed.now in
    let place = c.loop-place.place in
    let entry = c.instrument_in.result in
    let there : slice_get (entries_of_array listed) place ≡ Some entry = array_there listed place _ c.loop-place-test.true ∙ ap Some (sym c.instrument_in.ensures.instrument) in
    (place, stops_there (entries_of_array listed) place c.loop-place.list entry c.in-Some.why there (sym c.in_ok-why.ensures.answer ∙ c.in-Some.is) c.loop-place.invariant, omega arith)
