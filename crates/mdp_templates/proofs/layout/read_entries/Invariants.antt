use Rattle.std.proofs.Common.{take}
use Rattle.mdp_templates.specs.Layout.{AreEntries}
use Rattle.mdp_templates.specs.Spans.{Adds}
use Rattle.mdp_templates.proofs.layout.read_entries.Given as goal

-- the list grew by the entries of the first texts
abbrev pub invariant-loop-n : goal.invariant-loop-n
invariant-loop-n g l = Adds (AreEntries g.E.GroupEntry.reads (take l.n l.group)) l.fn.list.items l.list.items
