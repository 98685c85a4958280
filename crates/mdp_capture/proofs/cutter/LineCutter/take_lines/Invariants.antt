use Rattle.std.proofs.Common.{◌≡◌, ◌<◌, ◌≤◌, [], length}
use Rattle.mdp_capture.specs.Cutting.{CutsInto}
use Rattle.mdp_capture.proofs.cutter.LineCutter.take_lines.Given as goal

abbrev pub invariant-loop-end : goal.invariant-loop-end
invariant-loop-end g l = record {
  cut : CutsInto (λ front. g.L.TakesLines.takes l.fn.taker front l.taker) l.piece l.rest;
  none : l.self ≡ [];
  last : 0 < length l.last → g.L.TakesLines.took_last l.taker l.last;
  short : length l.rest ≤ length l.piece;
}

abbrev pub decreases-loop-end : goal.decreases-loop-end
decreases-loop-end g l = length l.rest
