use Rattle.std.proofs.Common.{length}
use Rattle.mdp_templates.specs.Recovery.{Give}
use Rattle.mdp_templates.proofs.recovery.read_messages.Given as goal

-- the messages read so far gave these snapshots
abbrev pub invariant-loop-next : goal.invariant-loop-next
invariant-loop-next g l = Give l.rest l.list.items l.cursor

abbrev pub decreases-loop-next : goal.decreases-loop-next
decreases-loop-next g l = length l.cursor
