use Rattle.std.proofs.Common.{◌≡◌, [], ◌∷◌, ◌++◌, List, map, length, refl, sym, ap, ◌∙◌, append_assoc, arith, rules}
use Rattle.std.specs.Vec.Iter.{into_iter_items}
use Rattle.std.proofs.lemmas.List.{append-nil}
use Rattle.std.proofs.lemmas.Result.{err_from_is_err_and}
use Rattle.mdp_engine.specs.Steps.{event_of}
use Rattle.mdp_arbiter.specs.OwnedMoves.{move_of}
use Rattle.mdp_crew.proofs.Adding.{fed_all, fed_further, fed_none, fed_short}
use Rattle.mdp_crew.proofs.feeding.feed_all.Goals as goal

nothing_left : {X : Type 0} (l : List X) → length l ≡ 0 → l ≡ []
nothing_left [] is = refl
nothing_left (x ∷ l) is = absurd (omega arith)

pub loop-event-init : goal.loop-event-init
loop-event-init g c = record {
  fed = λ listed before settled. fed_none listed before c.args.arbiter.now (map move_of c.args.owned_moves.now.items) settled;
  all = c.into_iter-event-iterator.ensures.into_iter_gives.0;
  left = search rules;
}

pub loop-event-preserved : goal.loop-event-preserved
loop-event-preserved g c =
    let at = c.loop-event in
    let x = c.in-Some.event in
    let steps = c.in-Some.ensures.steps in
    record {
      fed = λ listed before settled.
          let so_far = at.invariant.fed listed before settled in
          fed_further listed before c.args.arbiter.now (map move_of c.args.owned_moves.now.items) at.yielded x at.arbiter c.feed.new.arbiter (map move_of at.owned_moves.items) (map move_of c.feed.new.owned_moves.items) so_far
          (c.in_ok-feed.ensures listed (before ++ map event_of at.yielded) so_far.whole.1);
      all = append_assoc at.yielded (x ∷ []) _ ∙ rw (← steps.0) at.invariant.all;
      left =
          let was = at.invariant.left in
          let gone = steps.1 in
          let short = ap length steps.0 in
          omega arith;
    }

pub returns-in_err-feed : goal.returns-in_err-feed
returns-in_err-feed g c = λ listed before settled.
    let at = c.loop-event in
    let x = c.in-Some.event in
    let so_far = at.invariant.fed listed before settled in
    let fault = err_from_is_err_and c.from_residual.result c.from_residual.ensures.1 in
    let left = into_iter_items c.next.new.self in
    let are : (at.yielded ++ x ∷ []) ++ left ≡ c.args.events.items = append_assoc at.yielded (x ∷ []) left ∙ rw (← c.in-Some.ensures.steps.0) at.invariant.all in
    rw fault.1 (fed_short listed before c.args.arbiter.now (map move_of c.args.owned_moves.now.items) c.args.events.items at.yielded left x at.arbiter c.feed.new.arbiter (map move_of at.owned_moves.items) (map move_of c.feed.new.owned_moves.items) fault.0 are so_far
    (c.in_err-feed.ensures listed (before ++ map event_of at.yielded) so_far.whole.1))

pub returns : goal.returns
returns g c = λ listed before settled.
    let at = c.loop-event in
    let left : into_iter_items at.event-iterator ≡ [] = nothing_left _ (sym at.invariant.left ∙ c.in-None.ensures.steps.0) in
    let all : at.yielded ≡ c.args.events.items = sym (append-nil at.yielded) ∙ rw left at at.invariant.all in
    fed_all listed before c.args.arbiter.now (map move_of c.args.owned_moves.now.items) c.args.events.items at.yielded at.arbiter (map move_of at.owned_moves.items) all (at.invariant.fed listed before settled)
