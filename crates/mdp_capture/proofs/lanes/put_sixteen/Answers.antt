use Rattle.std.proofs.lemmas.Simd.{get_or-put_chunk_below}
use Rattle.mdp_capture.proofs.Spelt.{sixteen_spelt}
use Rattle.mdp_capture.proofs.lanes.put_sixteen.Goals as goal

pub returns-clause-before : goal.returns-clause-before
returns-clause-before c k under = get_or-put_chunk_below c.args.at c.args.bytes.now c.bytes_of.result k 0 under

pub returns-clause-spelt : goal.returns-clause-spelt
returns-clause-spelt c is =
    let below = c.are_below_16.ensures c.if-not-are_below_16.false in
    let put = c.bytes_of.ensures in
    sixteen_spelt c.args.digits.now c.args.bytes.now c.values_of-first.result c.values_of-second.result c.bytes_of.result c.args.at c.values_of-first.ensures c.values_of-second.ensures below put.len c.requires.bytes put.first put.second
