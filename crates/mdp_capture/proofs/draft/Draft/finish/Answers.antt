use Rattle.std.proofs.Common.{◌<◌, length, ap, arith}
use Rattle.std.proofs.lemmas.Bool.Decides.{nat_tests}
use Rattle.mdp_capture.proofs.draft.Draft.finish.Goals as goal

pub returns-clause-fit : goal.returns-clause-fit
returns-clause-fit g c =
    let listed = c.into_vec-instruments.ensures in
    let count = ap length c.as_slice.ensures.items in
    let some : 0 < length c.args.self.instruments = grind (arith, nat_tests, count) in
    rw (c.new.ensures, listed.items) (listed.fit some)
