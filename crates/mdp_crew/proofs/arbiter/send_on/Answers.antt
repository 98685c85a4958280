use Rattle.std.proofs.Common.{◌==◌, ◌∙◌, ℕ, map, ap}
use Rattle.mdp_engine.specs.Steps.{event_of}
use Rattle.mdp_arbiter.specs.OwnedMoves.{move_of}
use Rattle.mdp_crew.proofs.Sending.{none_sends, none_there, some_sends, some_stops}
use Rattle.mdp_crew.proofs.arbiter.send_on.Goals as goal

pub returns-clause-sends : goal.returns-clause-sends
returns-clause-sends g c =
    some_sends (map event_of c.args.events.items) c.args.senders.now c.send_moves.new.senders c.args.arbiter.now c.feed_all.new.arbiter
    (map move_of c.new-owned_moves.result.items) (map move_of c.feed_all.new.owned_moves.items) c.send_moves.result (ap (map move_of) c.new-owned_moves.ensures.items)
    (λ listed before settled. c.in_ok-feed_all.ensures listed before settled) c.send_moves.ensures.sends

pub returns-clause-stops : goal.returns-clause-stops
returns-clause-stops g c =
    some_stops (map event_of c.args.events.items) c.args.senders.now c.send_moves.new.senders c.args.arbiter.now c.feed_all.new.arbiter c.send_moves.result c.send_moves.ensures.stays

-- they make no move possible
pub returns-then-is_empty-clause-sends : goal.returns-then-is_empty-clause-sends
returns-then-is_empty-clause-sends g c =
    none_sends (map event_of c.args.events.items) c.args.senders.now c.args.arbiter.now c.feed_all.new.arbiter
    (map move_of c.new-owned_moves.result.items) (map move_of c.feed_all.new.owned_moves.items) (ap (map move_of) c.new-owned_moves.ensures.items) (ap (map move_of) (none_there c.feed_all.new.owned_moves.items (c.if-is_empty.ensures ∙ ap (λ (n : ℕ). n == 0) c.feed_all.new.owned_moves.ok.0)))
    (λ listed before settled. c.in_ok-feed_all.ensures listed before settled)
