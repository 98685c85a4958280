use Rattle.std.proofs.Common.{◌≡◌, map, take}
use Rattle.mdp_print.specs.Pieces.{BeginsWith}
use Rattle.mdp_arbiter.specs.Accepted.{recovered}
use Rattle.mdp_receiver.specs.Handling.{GoesOn}
use Rattle.mdp_receiver.specs.Taken.{count_all}
use Rattle.mdp_receiver.proofs.Counting.{AreCounted}
use Rattle.mdp_receiver.proofs.handler.Handler.recover.Given as goal

-- the snapshots so far were taken in and counted
abbrev pub invariant-loop-snapshot : goal.invariant-loop-snapshot
invariant-loop-snapshot g l = record {
  goes : GoesOn (map recovered (take l.snapshot-index l.snapshots)) l.initial.self l.self;
  counted : AreCounted l.snapshots l.snapshot-index l.initial.self l.counts;
  few : count_all l.counts ≡ l.snapshot-index;
  keeps : l.self.keeps_lines ≡ l.initial.self.keeps_lines;
  front : BeginsWith l.self.held l.initial.self.held;
}
