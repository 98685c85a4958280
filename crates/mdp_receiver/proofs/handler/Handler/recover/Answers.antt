use Rattle.std.proofs.Common.{◌≡◌, ◌≤◌, List, length, sym, ap, subst, ◌∙◌, arith}
use Rattle.std.proofs.lemmas.List.{take_all, drop_all}
use Rattle.std.proofs.lemmas.Result.{err_from_is_err_and}
use Rattle.mdp_print.proofs.Fronts.{begins_first}
use Rattle.mdp_arbiter.specs.Accepted.{Event}
use Rattle.mdp_arbiter.specs.Arbiter.{View as ArbiterView}
use Rattle.mdp_arbiter.specs.Fates.{snapshot_fate}
use Rattle.mdp_arbiter.specs.Standing.{StandsAt}
use Rattle.mdp_engine.specs.Engine.{View}
use Rattle.mdp_receiver.proofs.Breaking.{broken_off_at}
use Rattle.mdp_receiver.proofs.Counting.{AreCounted, counted_all, counted_more, few_more, goes_so}
use Rattle.mdp_receiver.proofs.handler.Handler.recover.Goals as goal

pub loop-snapshot-preserved : goal.loop-snapshot-preserved
loop-snapshot-preserved g c =
    let snapshots = c.args.snapshots.now in
    let i = c.loop-snapshot.snapshot-index in
    let first = c.args.self.now in
    let now = c.loop-snapshot.self in
    let item = c.snapshot-item.result in
    let fate = c.fate_of_snapshot.result in
    let same : c.arbiter.result.now ≡ now.arbiter = c.arbiter.ensures ∙ ap (λ (e : View). e.arbiter) c.self.view_is in
    let told : (es : List Event) → StandsAt es now.arbiter → fate ≡ snapshot_fate now.arbiter.channel.ids es item =
    λ es stands. subst (λ (a : ArbiterView). fate ≡ snapshot_fate a.channel.ids es item) same (c.fate_of_snapshot.ensures.stands es (subst (StandsAt es) (sym same) stands)) in
    record {
      goes = goes_so snapshots i item first now c.on_snapshot.new.self c.loop-snapshot-test.true c.snapshot-item.is c.loop-snapshot.invariant.goes c.in_ok-on_snapshot.ensures.goes;
      counted = subst (AreCounted snapshots _ first) (sym c.and-counts.ensures)
          (counted_more snapshots i item first now c.loop-snapshot.counts fate c.loop-snapshot-test.true c.snapshot-item.is c.loop-snapshot.invariant.goes told c.loop-snapshot.invariant.counted);
      few = few_more fate c.loop-snapshot.counts c.and-counts.result i c.and-counts.ensures c.loop-snapshot.invariant.few;
      keeps = c.on_snapshot.ensures.keeps ∙ c.loop-snapshot.invariant.keeps;
      front = begins_first first.held now.held c.on_snapshot.new.self.held c.loop-snapshot.invariant.front c.in_ok-on_snapshot.ensures.front;
    }

pub returns-clause-taken : goal.returns-clause-taken
returns-clause-taken g c =
    let snapshots = c.args.snapshots.now in
    let i = c.loop-snapshot.snapshot-index in
    let past : length snapshots ≤ i = omega (arith, c.loop-snapshot-test.false) in
    counted_all snapshots i c.args.self.now c.loop-snapshot.self c.loop-snapshot.counts (drop_all i snapshots past) (take_all i snapshots past) c.loop-snapshot.invariant.goes c.loop-snapshot.invariant.counted

pub returns-in_err-on_snapshot-clause-begins : goal.returns-in_err-on_snapshot-clause-begins
returns-in_err-on_snapshot-clause-begins g c =
    let fault = err_from_is_err_and c.from_residual.result c.from_residual.ensures.1 in
    rw fault.1 (broken_off_at c.args.snapshots.now c.loop-snapshot.snapshot-index c.snapshot-item.result c.args.self.now c.loop-snapshot.self c.on_snapshot.new.self
    c.loop-snapshot-test.true c.snapshot-item.is c.loop-snapshot.invariant.goes c.in_err-on_snapshot.ensures.begins)
