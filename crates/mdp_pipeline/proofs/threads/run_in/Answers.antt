use Rattle.std.proofs.Common.{arith}
use Rattle.mdp_templates.specs.declared.feed.Feed.TheVariants as Feed
use Rattle.mdp_crew.specs.declared.fault.RunFault.{RunFault}
use Rattle.mdp_crew.specs.Outlets.{out}
use Rattle.mdp_crew.specs.Plan.{channel_in}
use Rattle.mdp_pipeline.specs.declared.summary.Summary.{Summary}
use Rattle.mdp_pipeline.specs.Merge.{records_in}
use Rattle.mdp_pipeline.specs.Output.{SaysAll, SaysSome, standing_in}
use Rattle.mdp_pipeline.proofs.Joining.{begins_nothing, map_err, map_ok, none_failed, read_for, read_there}
use Rattle.mdp_pipeline.proofs.Written.{ended_counted, stopped_counted}
use Rattle.mdp_pipeline.proofs.threads.run_in.Goals as goal

pub settle_and_finish-requires-clause-sound : goal.settle_and_finish-requires-clause-sound
settle_and_finish-requires-clause-sound g c =
    none_failed c.run_crew-crew.result.standing (g.W.CountedWrite.failed c.args.writer.now) (g.W.CountedWrite.failed c.run_crew-crew.new.writer) _ c.requires.sound c.run_crew-crew.ensures.failed

pub settle_and_finish-requires-clause-a : goal.settle_and_finish-requires-clause-a
settle_and_finish-requires-clause-a g c =
    read_for c.in-Ok.receiver c.run_crew-crew.result.receiver Feed.A c.args.feeds.a.now c.in-Ok.to_a c.join.result
    c.run_crew-crew.ensures.takes c.in-Ok.ensures.a (read_there (λ h. h.promise.feed) (λ h. h.promise.records.value.now) (λ h. h.promise.before.value) c.begin_reader-reads_a.result Feed.A c.args.feeds.a.now c.in-Ok.to_a c.join.result c.begin_reader-reads_a.ensures c.join.ensures)

pub settle_and_finish-requires-clause-b : goal.settle_and_finish-requires-clause-b
settle_and_finish-requires-clause-b g c =
    read_for c.in-Ok.receiver c.run_crew-crew.result.receiver Feed.B c.args.feeds.b.now c.in-Ok.to_b c.join-2.result
    c.run_crew-crew.ensures.takes c.in-Ok.ensures.b (read_there (λ h. h.promise.feed) (λ h. h.promise.records.value.now) (λ h. h.promise.before.value) c.begin_reader-reads_b.result Feed.B c.args.feeds.b.now c.in-Ok.to_b c.join-2.result c.begin_reader-reads_b.ensures c.join-2.ensures)

pub settle_and_finish-requires-clause-s : goal.settle_and_finish-requires-clause-s
settle_and_finish-requires-clause-s g c =
    read_for c.in-Ok.receiver c.run_crew-crew.result.receiver Feed.S c.args.feeds.s.now c.in-Ok.to_s c.join-3.result
    c.run_crew-crew.ensures.takes c.in-Ok.ensures.s (read_there (λ h. h.promise.feed) (λ h. h.promise.records.value.now) (λ h. h.promise.before.value) c.begin_reader-reads_s.result Feed.S c.args.feeds.s.now c.in-Ok.to_s c.join-3.result c.begin_reader-reads_s.ensures c.join-3.ensures)

-- nothing was begun
pub returns-in_default-clause-ends : goal.returns-in_default-clause-ends
returns-in_default-clause-ends g c =
    let start = g.W.CountedWrite.taken c.args.writer.now in
    record {
      text = tt;
      begins = begins_nothing (channel_in c.args.plan) (records_in c.args.feeds) start c.args.board.now;
      written = tt;
      told = omega arith;
      range = tt;
    }

pub returns-clause-ends : goal.returns-clause-ends
returns-clause-ends g c =
    let channel = channel_in c.args.plan in
    let start = g.W.CountedWrite.taken c.args.writer.now in
    let shows = c.run_crew-crew.ensures.shows in
    let result = c.settle_and_finish.result in
    let records = records_in c.args.feeds in
    let old = out start c.args.board.now in
    let new = out (g.W.CountedWrite.taken c.settle_and_finish.new.writer) c.run_crew-crew.new.board in
    let text = map_ok result _ (λ (summary : Summary). SaysAll channel records old new (standing_in summary)) (λ summary ends. ends channel start c.args.board.now c.run_crew-crew.new.board shows) c.settle_and_finish.ensures.text in
    let begins = map_err result _ (λ (fault : RunFault). SaysSome channel records old new) (λ fault ends. ends channel start c.args.board.now c.run_crew-crew.new.board shows) c.settle_and_finish.ensures.begins in
    record {
      text = text;
      begins = begins;
      written = ended_counted channel records old new c.written-since.result result c.written-since.ensures text c.settle_and_finish.ensures.written;
      told = stopped_counted channel records old new c.written-since.result result c.written-since.ensures begins c.settle_and_finish.ensures.told;
      range = c.settle_and_finish.ensures.range;
    }

pub returns-clause-failed : goal.returns-clause-failed
returns-clause-failed g c = c.settle_and_finish.ensures.failed (g.W.CountedWrite.failed c.args.writer.now) c.run_crew-crew.ensures.failed
