use Rattle.std.proofs.Common.{◌≡◌, ◌+◌, ◌∙◌, true, refl, sym}
use Rattle.mdp_arbiter.specs.Machine.{is_fresh}
use Rattle.mdp_arbiter.proofs.Fresh.{begins, walks_on}
use Rattle.mdp_arbiter.proofs.fresh_front.FreshFront.first_stale.Goals as goal

pub loop-slot-init : goal.loop-slot-init
loop-slot-init c =
    let start = begins c.args.room c.args.top c.args.self.now c.while_fresh.result c.args.newest.now c.requires.leads c.while_fresh.ensures in
    record { known = refl; leads = start.0; stale = start.1 }

pub loop-slot-preserved : goal.loop-slot-preserved
loop-slot-preserved c =
    let turn = c.loop-slot in
    let fresh : is_fresh c.args.room c.args.top c.index-newest-slot.result ≡ true = sym c.is_fresh_enough.ensures ∙ c.if-not-is_fresh_enough.false in
    let on =
    walks_on c.args.room c.args.top turn.slot turn.self (record { count = turn.slot + 1; least = c.least_with-self.result }) c.args.newest.now c.index-newest-slot.result turn.invariant.known
    c.loop-slot-test.true c.index-newest-slot.is fresh turn.invariant.leads refl c.least_with-self.ensures in
    record { known = refl; leads = on.0; stale = on.1 ∙ turn.invariant.stale }
