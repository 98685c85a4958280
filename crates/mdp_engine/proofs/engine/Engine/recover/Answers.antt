use Rattle.std.proofs.lemmas.Result.{err_from_is_err_and}
use Rattle.mdp_arbiter.specs.Accepted.{recovered}
use Rattle.mdp_engine.proofs.Breaking.{broken_off_on_way}
use Rattle.mdp_engine.proofs.Keeping.{as_before}
use Rattle.mdp_engine.proofs.Moving.{stands_further}
use Rattle.mdp_engine.proofs.engine.Engine.recover.Goals as goal

pub returns-clause-stands : goal.returns-clause-stands
returns-clause-stands g c = λ listed es gone stands.
    stands_further listed es (recovered c.args.snapshot.now) gone c.args.self.now c.take_lent.new.self c.move_on.new.self
    (c.take_lent.ensures.stands es stands.settled.stands) c.take_lent.ensures.keeps c.take_lent.ensures.channel
    (as_before c.args.self.now c.take_lent.new.self c.take_lent.ensures.rest)
    c.in_ok-move_on.ensures.channel c.in_ok-move_on.ensures.advances stands

pub returns-in_err-move_on-clause-begins : goal.returns-in_err-move_on-clause-begins
returns-in_err-move_on-clause-begins g c =
    let fault = err_from_is_err_and c.from_residual.result c.from_residual.ensures.1 in
    rw fault.1 (broken_off_on_way (recovered c.args.snapshot.now) c.args.self.now c.take_lent.new.self c.move_on.new.self
    c.take_lent.ensures.stands c.take_lent.ensures.keeps c.take_lent.ensures.channel
    (as_before c.args.self.now c.take_lent.new.self c.take_lent.ensures.rest) c.in_err-move_on.ensures.begins)
