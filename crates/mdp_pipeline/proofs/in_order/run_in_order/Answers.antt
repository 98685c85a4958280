use Rattle.std.proofs.Common.{◌∙◌, ap, refl}
use Rattle.std.proofs.lemmas.Result.{err_from_is_err_and}
use Rattle.mdp_crew.specs.Faults.{written_before}
use Rattle.mdp_crew.specs.Plan.{channel_in}
use Rattle.mdp_pipeline.specs.Merge.{in_order, records_in}
use Rattle.mdp_pipeline.proofs.Written.{taken_none, taken_more, taken_all, run_begins, run_printed, begun_counted, failed_counted, printed_counted}
use Rattle.mdp_pipeline.proofs.Beginnings.{begins_none, taken_begins, piece_begins}
use Rattle.mdp_pipeline.proofs.Ending.{writes_on}
use Rattle.mdp_pipeline.proofs.Merges.{begins_by_line, ended_by_line, failed_by_line}
use Rattle.mdp_pipeline.proofs.in_order.run_in_order.Goals as goal

pub loop-feed-init : goal.loop-feed-init
loop-feed-init g c =
    let run = c.in-Ok.run' in
    let start = g.W.CountedWrite.taken c.args.writer.now in
    record {
      taken = taken_none (channel_in c.args.plan) (records_in c.args.feeds) start run c.in-Ok.ensures.run;
      failed = refl;
    }

pub loop-feed-preserved : goal.loop-feed-preserved
loop-feed-preserved g c =
    let start = g.W.CountedWrite.taken c.args.writer.now in
    let here = c.loop-feed.feeds in
    let there = c.next_by_line.new.self in
    record {
      taken = taken_more (channel_in c.args.plan) (records_in c.args.feeds) start (g.W.CountedWrite.taken c.loop-feed.writer) (g.W.CountedWrite.taken c.hand_on_pieces.new.writer)
          c.loop-feed.run c.take.new.self c.hand_on_pieces.new.run (records_in here) (records_in there) c.in-Some.feed c.in-Some.record.now
          c.in-Some.ensures c.in-Ok-take.ensures (λ arrivals. writes_on (channel_in c.args.plan) arrivals start (g.W.CountedWrite.taken c.loop-feed.writer) (g.W.CountedWrite.taken c.hand_on_pieces.new.writer) c.take.new.self c.hand_on_pieces.new.run c.in_ok-hand_on_pieces.ensures.hands_on) c.loop-feed.invariant.taken;
      failed = c.in_ok-hand_on_pieces.ensures.failed ∙ c.loop-feed.invariant.failed;
    }

pub returns-in_err-hand_on_pieces-clause-failed : goal.returns-in_err-hand_on_pieces-clause-failed
returns-in_err-hand_on_pieces-clause-failed g c =
    let fault = err_from_is_err_and c.from_residual.result c.from_residual.ensures.1 in
    rw (fault.1, fault.2) (rw (← c.loop-feed.invariant.failed) c.in_err-hand_on_pieces.ensures.failed)

pub returns-clause-text : goal.returns-clause-text
returns-clause-text g c =
    let start = g.W.CountedWrite.taken c.args.writer.now in
    let taken = g.W.CountedWrite.taken c.loop-feed.writer in
    let run = c.loop-feed.run in
    let here = c.loop-feed.feeds in
    let writes = taken_all (channel_in c.args.plan) (records_in c.args.feeds) start taken run (records_in here) c.in_default-next_by_line.ensures c.loop-feed.invariant.taken in
    ended_by_line (channel_in c.args.plan) (records_in c.args.feeds) start (g.W.CountedWrite.taken c.finish.new.writer) c.finish.result
    (run_printed (channel_in c.args.plan) (in_order (records_in c.args.feeds)) start taken (g.W.CountedWrite.taken c.finish.new.writer) run c.finish.result c.finish.ensures.text writes)

pub returns-clause-written : goal.returns-clause-written
returns-clause-written g c =
    printed_counted (channel_in c.args.plan) (records_in c.args.feeds) (g.W.CountedWrite.taken c.args.writer.now) (g.W.CountedWrite.taken c.finish.new.writer) c.written-since.result c.finish.result
    c.written-since.ensures (returns-clause-text g c) c.finish.ensures.written

-- no run was made
pub returns-in_default-clause-begins : goal.returns-in_default-clause-begins
returns-in_default-clause-begins g c =
    begins_by_line (channel_in c.args.plan) (records_in c.args.feeds) (g.W.CountedWrite.taken c.args.writer.now) (g.W.CountedWrite.taken c.args.writer.now)
    (begins_none (channel_in c.args.plan) (in_order (records_in c.args.feeds)) (g.W.CountedWrite.taken c.args.writer.now))

-- a record was not taken
pub returns-in_default-take-clause-begins : goal.returns-in_default-take-clause-begins
returns-in_default-take-clause-begins g c =
    let run = c.loop-feed.run in
    let here = c.loop-feed.feeds in
    begins_by_line (channel_in c.args.plan) (records_in c.args.feeds) (g.W.CountedWrite.taken c.args.writer.now) (g.W.CountedWrite.taken c.loop-feed.writer)
    (taken_begins (channel_in c.args.plan) (records_in c.args.feeds) (g.W.CountedWrite.taken c.args.writer.now) (g.W.CountedWrite.taken c.loop-feed.writer)
    run (records_in here) c.loop-feed.invariant.taken)

-- a write of a piece failed
pub returns-in_err-hand_on_pieces-clause-begins : goal.returns-in_err-hand_on_pieces-clause-begins
returns-in_err-hand_on_pieces-clause-begins g c =
    let fault = err_from_is_err_and c.from_residual.result c.from_residual.ensures.1 in
    let here = c.loop-feed.feeds in
    let there = c.next_by_line.new.self in
    let front = c.in_err-hand_on_pieces.ensures.begins in
    rw fault.1
    (begins_by_line (channel_in c.args.plan) (records_in c.args.feeds) (g.W.CountedWrite.taken c.args.writer.now) (g.W.CountedWrite.taken c.hand_on_pieces.new.writer)
    (piece_begins (channel_in c.args.plan) (records_in c.args.feeds) (g.W.CountedWrite.taken c.args.writer.now) (g.W.CountedWrite.taken c.loop-feed.writer) (g.W.CountedWrite.taken c.hand_on_pieces.new.writer)
    c.loop-feed.run c.take.new.self (records_in here) (records_in there) c.in-Some.feed c.in-Some.record.now front.0
    c.in-Some.ensures c.in-Ok-take.ensures front.1 c.loop-feed.invariant.taken))

pub returns-clause-begins : goal.returns-clause-begins
returns-clause-begins g c =
    let start = g.W.CountedWrite.taken c.args.writer.now in
    let taken = g.W.CountedWrite.taken c.loop-feed.writer in
    let run = c.loop-feed.run in
    let here = c.loop-feed.feeds in
    let writes = taken_all (channel_in c.args.plan) (records_in c.args.feeds) start taken run (records_in here) c.in_default-next_by_line.ensures c.loop-feed.invariant.taken in
    failed_by_line (channel_in c.args.plan) (records_in c.args.feeds) start (g.W.CountedWrite.taken c.finish.new.writer) c.finish.result
    (run_begins (channel_in c.args.plan) (in_order (records_in c.args.feeds)) start taken (g.W.CountedWrite.taken c.finish.new.writer) run c.finish.result c.finish.ensures.begins writes)

-- ---- how many bytes went out before a fault

pub returns-in_default-clause-told : goal.returns-in_default-clause-told
returns-in_default-clause-told g c =
    let start = g.W.CountedWrite.taken c.args.writer.now in
    begun_counted (channel_in c.args.plan) (records_in c.args.feeds) start start c.written-since.result c.out_of_memory.result c.written-since.ensures (returns-in_default-clause-begins g c) (ap written_before c.out_of_memory.ensures)

pub returns-in_default-take-clause-told : goal.returns-in_default-take-clause-told
returns-in_default-take-clause-told g c =
    begun_counted (channel_in c.args.plan) (records_in c.args.feeds) (g.W.CountedWrite.taken c.args.writer.now) (g.W.CountedWrite.taken c.loop-feed.writer) c.written-since.result c.out_of_memory-in_default-take.result
    c.written-since.ensures (returns-in_default-take-clause-begins g c) (ap written_before c.out_of_memory-in_default-take.ensures)

pub returns-in_err-hand_on_pieces-clause-told : goal.returns-in_err-hand_on_pieces-clause-told
returns-in_err-hand_on_pieces-clause-told g c =
    let fault = err_from_is_err_and c.from_residual.result c.from_residual.ensures.1 in
    failed_counted (channel_in c.args.plan) (records_in c.args.feeds) (g.W.CountedWrite.taken c.args.writer.now) (g.W.CountedWrite.taken c.hand_on_pieces.new.writer) c.written-since.result c.from_residual.result
    c.written-since.ensures (returns-in_err-hand_on_pieces-clause-begins g c) (rw (fault.1, fault.2) c.in_err-hand_on_pieces.ensures.told)

pub returns-clause-told : goal.returns-clause-told
returns-clause-told g c =
    failed_counted (channel_in c.args.plan) (records_in c.args.feeds) (g.W.CountedWrite.taken c.args.writer.now) (g.W.CountedWrite.taken c.finish.new.writer) c.written-since.result c.finish.result
    c.written-since.ensures (returns-clause-begins g c) c.finish.ensures.told
