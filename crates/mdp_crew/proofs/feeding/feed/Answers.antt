use Rattle.std.proofs.Common.{◌∷◌, [], ◌++◌, map}
use Rattle.std.proofs.lemmas.Result.{err_from_is_err_and}
use Rattle.mdp_arbiter.specs.OwnedMoves.{move_of}
use Rattle.mdp_engine.specs.Steps.{event_of}
use Rattle.mdp_crew.proofs.Making.{fed, not_fed}
use Rattle.mdp_crew.proofs.feeding.feed.Goals as goal

pub returns-in_err-take_in : goal.returns-in_err-take_in
returns-in_err-take_in g c = λ listed before settled.
    let fault = err_from_is_err_and c.from_residual.result c.from_residual.ensures.1 in
    rw fault.1 (not_fed listed before (event_of c.args.event) c.args.arbiter.now c.take_in.new.arbiter (map move_of c.args.owned_moves.now.items) fault.0)

pub returns : goal.returns
returns g c = λ listed before settled.
    fed listed before (event_of c.args.event) c.args.arbiter.now c.take_in.new.arbiter c.make_moves.new.arbiter (map move_of c.args.owned_moves.now.items) (map move_of c.make_moves.new.owned_moves.items) c.make_moves.result
    (c.in_ok-take_in.ensures.stands before settled.stands) c.in_ok-take_in.ensures.keeps c.in_ok-take_in.ensures.channel settled
    (c.make_moves.ensures (before ++ event_of c.args.event ∷ []) (c.in_ok-take_in.ensures.stands before settled.stands))
