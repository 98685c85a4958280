use Rattle.std.proofs.Common.{◌∷◌, [], map, ap, ◌∙◌}
use Rattle.std.proofs.lemmas.List.{map-append}
use Rattle.std.proofs.lemmas.Result.{err_from_is_err_and}
use Rattle.mdp_arbiter.specs.OwnedMoves.{move_of, stepped_move}
use Rattle.mdp_crew.proofs.Making.{moves_further, moves_settled, moves_begun}
use Rattle.mdp_crew.proofs.feeding.make_moves.Goals as goal

pub returns-in_err-owned_move : goal.returns-in_err-owned_move
returns-in_err-owned_move g c =
    let fault = err_from_is_err_and c.from_residual.result c.from_residual.ensures.1 in
    rw fault.1 (moves_begun c.args.arbiter.now c.loop-step.arbiter c.step.new.self (map move_of c.args.owned_moves.now.items) (map move_of c.loop-step.owned_moves.items) fault.0 c.loop-step.invariant)

pub loop-step-preserved : goal.loop-step-preserved
loop-step-preserved g c =
    moves_further c.args.arbiter.now c.loop-step.arbiter c.step.new.self (map move_of c.args.owned_moves.now.items) (map move_of c.loop-step.owned_moves.items) (map move_of c.push.new.self.items) c.in-Some.step (move_of c.in_ok-owned_move.owned_move)
    c.loop-step.invariant c.in-Some.ensures.steps c.in-Some.ensures.channel
    (c.in_ok-owned_move.ensures ∙ ap (stepped_move c.in-Some.step) c.newest.ensures)
    (ap (map move_of) c.in_ok-push.ensures.items ∙ map-append move_of c.loop-step.owned_moves.items (c.in_ok-owned_move.owned_move ∷ []))

pub returns-in_err-push : goal.returns-in_err-push
returns-in_err-push g c =
    let fault = err_from_is_err_and c.from_residual-in_err-push.result c.from_residual-in_err-push.ensures.1 in
    rw (fault.1, c.in_err-push.ensures.items) (moves_begun c.args.arbiter.now c.loop-step.arbiter c.step.new.self (map move_of c.args.owned_moves.now.items) (map move_of c.loop-step.owned_moves.items) fault.0 c.loop-step.invariant)

pub returns : goal.returns
returns g c = moves_settled c.args.arbiter.now c.loop-step.arbiter c.step.new.self (map move_of c.args.owned_moves.now.items) (map move_of c.loop-step.owned_moves.items) c.step.result _ c.in_default.is c.loop-step.invariant c.step.ensures.steps c.in_default.ensures.channel
