use Rattle.std.proofs.Common.{◌≡◌, ℕ, List, vec_len}
use Rattle.std.specs.Io.KnownBytes.{Consumes}
use Rattle.mdp_capture.specs.Reading.{HasRead}
use Rattle.mdp_capture.proofs.over_threads.read_capture_over_threads.Given as goal

abbrev pub invariant-loop-reading : goal.invariant-loop-reading
invariant-loop-reading g l = record {
  read : (text : List ℕ) × HasRead l.reading text × Consumes (g.R.CountedRead.rest l.initial.reader) (g.R.CountedRead.rest l.reader) text;
  failed : g.R.CountedRead.failed l.reader ≡ g.R.CountedRead.failed l.initial.reader;
  room : vec_len l.piece ≡ 4194304;
}

abbrev pub decreases-loop-reading : goal.decreases-loop-reading
decreases-loop-reading g l = g.R.CountedRead.left l.reader
