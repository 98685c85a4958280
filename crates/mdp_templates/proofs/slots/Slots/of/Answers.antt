use Rattle.mdp_templates.proofs.Places.{all_listed, ids_of_more, listed_differ}
use Rattle.mdp_templates.proofs.slots.Slots.of.Goals as goal

pub loop-instrument-preserved : goal.loop-instrument-preserved
loop-instrument-preserved g c =
    ids_of_more c.args.instruments.now c.loop-instrument.ids.keys _ _ _ c.requires c.loop-instrument-test.true c.instrument-item.is c.loop-instrument.invariant c.in_ok-enter.ensures

pub invariant_of-result : goal.invariant_of-result
invariant_of-result g c = listed_differ c.args.instruments.now _ c.requires (all_listed _ _ _ c.loop-instrument-test.false c.loop-instrument.invariant)
