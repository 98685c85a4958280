use Rattle.std.proofs.Common.{drop, take, refl, sym}
use Rattle.std.proofs.lemmas.List.{take-append-drop}
use Rattle.std.proofs.lemmas.Result.{err_from_is_err_and}
use Rattle.mdp_pipeline.proofs.HandingOver.{handed_over, moved_on, read_next, read_none}
use Rattle.mdp_pipeline.proofs.feed_reader.FeedReader.read_all.Goals as goal

pub loop-record-init : goal.loop-record-init
loop-record-init g c = record { reads = read_none c.args.feed c.args.self.now.sender c.args.self.now refl c.requires.events c.requires.refusals; goes_on = c.requires.open }

pub loop-record-preserved : goal.loop-record-preserved
loop-record-preserved g c =
    let paced = moved_on c.args.feed (take c.loop-record.record-index c.args.records.now) c.args.self.now.sender c.loop-record.self c.keep_pace.new.self c.keep_pace.ensures.put.0 c.keep_pace.ensures.put.1 c.keep_pace.ensures.put.2 c.keep_pace.ensures.refusals c.loop-record.invariant.reads in
    record {
      reads = read_next c.args.feed c.args.records.now c.loop-record.record-index c.record-item.result c.args.self.now.sender c.keep_pace.new.self c.read.new.self c.loop-record-test.true c.record-item.is paced c.in_ok-read.ensures.one;
      goes_on = c.in_ok-read.ensures.goes_on;
    }

pub returns-in_err-read-clause-some : goal.returns-in_err-read-clause-some
returns-in_err-read-clause-some g c =
    let fault = err_from_is_err_and c.from_residual.result c.from_residual.ensures.1 in
    let records = c.args.records.now in
    let n = c.loop-record.record-index in
    let paced = moved_on c.args.feed (take n records) c.args.self.now.sender c.loop-record.self c.keep_pace.new.self c.keep_pace.ensures.put.0 c.keep_pace.ensures.put.1 c.keep_pace.ensures.put.2 c.keep_pace.ensures.refusals c.loop-record.invariant.reads in
    rw fault.1 (handed_over c.args.feed records (take n records) (drop n records) c.args.self.now.sender c.read.new.self.sender c.keep_pace.new.self (sym (take-append-drop n records)) c.in_err-read.ensures.stays paced)
