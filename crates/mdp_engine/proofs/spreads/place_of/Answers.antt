use Rattle.std.proofs.lemmas.Int.{to_z-of_z}
use Rattle.mdp_engine.proofs.Auditing.{slot_of_is}
use Rattle.mdp_engine.proofs.spreads.place_of.Goals as goal

pub returns : goal.returns
returns g c =
    let same = to_z-of_z _ _ c.ranges.id in
    let found = c.slot_of.ensures in
    slot_of_is c.args.slots.now c.args.id c.slot_of.result (rw same at found.some) (rw same at found.only) (rw same at found.none)
