use Rattle.std.proofs.Common.{subst, sym}
use Rattle.mdp_engine.specs.Engine.{View}
use Rattle.mdp_receiver.specs.Handling.{MovesDatagram}
use Rattle.mdp_receiver.specs.declared.moved.Moved.{Moved}
use Rattle.mdp_receiver.specs.declared.taken.Taken.{Taken}
use Rattle.mdp_pipeline.proofs.Streaming.{moving}
use Rattle.mdp_pipeline.proofs.progress.Run.take_datagram_with_moves.Goals as goal

pub returns : goal.returns
returns g c =
    let told : Taken × Moved = (c.in_ok-taken.taken, c.in_ok-taken.moved) in
    moving c.args.feed c.args.line c.args.bytes.now told c.args.self.now c.keep.new.self
    (subst (λ (v : View). MovesDatagram c.args.feed c.args.bytes.now told c.args.self.now.handler v) (sym c.keep.ensures.handler) c.in_ok-taken.ensures.taken) c.in_ok-keep.ensures.refusals
