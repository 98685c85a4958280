use Rattle.std.proofs.Common.{◌≡◌, ◌<◌, ℕ, List, [], length}
use Rattle.std.specs.Io.KnownBytes.{Consumes}
use Rattle.mdp_pipeline.specs.Streamed.{Setup}
use Rattle.mdp_handler.specs.Faults.{Tells}
use Rattle.mdp_handler.specs.Live.{SoFar, went}
use Rattle.mdp_handler.proofs.live.read_pieces.Given as goal

-- a text was read, and all that its lines show and tell went out
abbrev pub invariant-loop-run : goal.invariant-loop-run
invariant-loop-run g l = record {
  read : (text : List ℕ) × Consumes (g.I.CountedRead.rest l.initial.input) (g.I.CountedRead.rest l.input) text
      × ((setup : Setup) (start : List ℕ) (first : _)
      → SoFar setup [] (went start (g.O.CountedWrite.taken l.initial.output) (Tells g.F.CountedWrite.failed g.F.CountedWrite.taken first l.initial.faults)) l.initial.run
      → SoFar setup text (went start (g.O.CountedWrite.taken l.output) (Tells g.F.CountedWrite.failed g.F.CountedWrite.taken first l.faults)) l.run);
  reads : g.I.CountedRead.failed l.input ≡ g.I.CountedRead.failed l.initial.input;
  writes : g.O.CountedWrite.failed l.output ≡ g.O.CountedWrite.failed l.initial.output;
  room : 0 < length l.piece;
}

abbrev pub decreases-loop-run : goal.decreases-loop-run
decreases-loop-run g l = g.I.CountedRead.left l.input
