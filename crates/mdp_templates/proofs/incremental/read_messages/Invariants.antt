use Rattle.std.proofs.Common.{◌≡◌, length}
use Rattle.mdp_sbe.specs.Framing.{AreMessages}
use Rattle.mdp_templates.specs.Incremental.{IsIncremental}
use Rattle.mdp_templates.specs.Spans.{AreWithin, entries_in, messages_at}
use Rattle.mdp_templates.proofs.incremental.read_messages.Given as goal

-- the messages read so far stand before what is left, and all entries are theirs
abbrev pub invariant-loop-next : goal.invariant-loop-next
invariant-loop-next g l = record {
  within : AreWithin (length l.entries.items) l.spans;
  counted : length l.entries.items ≡ entries_in l.spans;
  read : AreMessages IsIncremental l.rest (messages_at l.entries.items l.spans) l.cursor;
}

abbrev pub decreases-loop-next : goal.decreases-loop-next
decreases-loop-next g l = length l.cursor
