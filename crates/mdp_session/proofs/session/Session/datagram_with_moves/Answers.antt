use Rattle.std.proofs.Common.{subst}
use Rattle.std.specs.Prelude.{IfOk}
use Rattle.mdp_engine.specs.Engine.{View}
use Rattle.mdp_receiver.specs.Handling.{MovesDatagram}
use Rattle.mdp_session.proofs.session.Session.datagram_with_moves.Goals as goal

pub returns-clause-taken : goal.returns-clause-taken
returns-clause-taken c =
    let call = c.datagram_with_moves in
    subst (λ (old : View). IfOk call.result (λ told. MovesDatagram c.args.feed c.args.bytes.now told old call.new.self)) c.self.view_is call.ensures.taken
