use Rattle.std.proofs.Common.{◌≡◌, ◌++◌, ◌≤◌, None, length, replicate, cond, arith}
use Rattle.std.proofs.lemmas.Grind.{common_steps}
use Rattle.std.specs.Prelude.{is_some}
use Rattle.std.specs.Option.{option_flatten}
use Rattle.mdp_window.proofs.Filled.{bit_most, count_pushed, kept_most}
use Rattle.mdp_window.proofs.ring_window.push_empty.Goals as goal

pub loop-preserved : goal.loop-preserved
loop-preserved g c =
    let ring = c.args.places.now in
    let places = c.loop.places in
    let out = c.push_back.result in
    let most : length c.loop.places.items ≤ c.loop.places.capacity =
    rw c.loop.invariant.moves (kept_most ring.capacity (ring.items ++ replicate c.loop.counter None)) in
    let fell : c.from-fallen.result ≡ cond (is_some (option_flatten c.push_back.result)) 1 0 =
    grind (arith, common_steps, c.from-fallen.ensures, c.is_some.ensures, c.flatten-item.ensures) in
    let counted = count_pushed places.capacity places.items out most c.push_back.ensures.value in
    record {
      moves = grind (arith, common_steps, c.loop.invariant.moves, c.push_back.ensures.items, c.requires);
      counts = rw c.push_back.ensures.items (omega (arith, c.loop.invariant.counts, fell, counted));
      few = omega (arith, c.loop.invariant.few, fell, bit_most (is_some (option_flatten out)));
    }
