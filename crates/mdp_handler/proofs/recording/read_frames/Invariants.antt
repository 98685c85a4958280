use Rattle.std.proofs.Common.{◌≡◌, ◌<◌, ℕ, List, [], length}
use Rattle.std.specs.Io.KnownBytes.{Consumes}
use Rattle.mdp_arbiter.specs.Channel.{ListedChannel}
use Rattle.mdp_pcap.specs.declared.addresses.FeedAddress.{FeedAddress}
use Rattle.mdp_handler.specs.Faults.{Tells}
use Rattle.mdp_handler.specs.Live.{went}
use Rattle.mdp_handler.specs.Recording.{FramesSoFar}
use Rattle.mdp_handler.proofs.recording.read_frames.Given as goal

-- a text was read, and all that its frames show and tell went out
abbrev pub invariant-loop-input : goal.invariant-loop-input
invariant-loop-input g l = record {
  read : (text : List ℕ) × Consumes (g.I.CountedRead.rest l.initial.input) (g.I.CountedRead.rest l.input) text
      × ((channel : ListedChannel) (addresses : List FeedAddress) (start : List ℕ) (first : _)
      → FramesSoFar channel addresses [] (went start (g.O.CountedWrite.taken l.initial.output) (Tells g.F.CountedWrite.failed g.F.CountedWrite.taken first l.initial.faults)) l.initial.run
      → FramesSoFar channel addresses text (went start (g.O.CountedWrite.taken l.output) (Tells g.F.CountedWrite.failed g.F.CountedWrite.taken first l.faults)) l.run);
  reads : g.I.CountedRead.failed l.input ≡ g.I.CountedRead.failed l.initial.input;
  writes : g.O.CountedWrite.failed l.output ≡ g.O.CountedWrite.failed l.initial.output;
  room : 0 < length l.piece;
}

abbrev pub decreases-loop-input : goal.decreases-loop-input
decreases-loop-input g l = g.I.CountedRead.left l.input
