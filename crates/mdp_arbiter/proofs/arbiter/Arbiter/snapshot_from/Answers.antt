use Rattle.std.proofs.Common.{refl, Some}
use Rattle.std.specs.Prelude.{None}
use Rattle.mdp_arbiter.specs.Snapshots.{Renews}
use Rattle.mdp_arbiter.proofs.Standings.{renews_stands}
use Rattle.mdp_arbiter.proofs.arbiter.Arbiter.snapshot_from.Goals as goal

pub returns-in_default-clause-stands : goal.returns-in_default-clause-stands
returns-in_default-clause-stands g c = λ es stands.
    renews_stands es c.args.snapshot.now c.args.self.now c.args.self.now (Some c.args.snapshot.now) (refl, refl, c.in_default.ensures.none) stands

pub returns-clause-stands : goal.returns-clause-stands
returns-clause-stands g c = λ es stands.
    let put : Renews c.args.snapshot.now c.args.self.now c.put_newest.new.self None = rw c.copy.ensures at c.put_newest.ensures in
    renews_stands es c.args.snapshot.now c.args.self.now c.put_newest.new.self None put stands
