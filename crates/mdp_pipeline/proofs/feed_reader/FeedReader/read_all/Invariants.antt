use Rattle.std.proofs.Common.{◌≡◌, false, take}
use Rattle.mdp_pipeline.specs.Readers.{HasReadSoFar, has_ended}
use Rattle.mdp_pipeline.proofs.feed_reader.FeedReader.read_all.Given as goal

-- the first records are read
abbrev pub invariant-loop-record : goal.invariant-loop-record
invariant-loop-record g l = record {
  reads : HasReadSoFar l.feed (take l.record-index l.records) l.initial.self.sender l.self;
  goes_on : has_ended l.self.sender ≡ false;
}
