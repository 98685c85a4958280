use Rattle.std.proofs.Common.{◌≡◌, ◌++◌, ◌+◌, drop}
use Rattle.mdp_print.specs.Pieces.{BeginsWith}
use Rattle.mdp_books.specs.Feed.{sent_from}
use Rattle.mdp_desks.specs.Desks.{passed_desks, passed_moments}
use Rattle.mdp_desks.specs.Changed.{changed_through}
use Rattle.mdp_engine.specs.Kept.{kept_lines}
use Rattle.mdp_engine.proofs.audited_desks.AuditedDesks.pass.Given as goal

-- the messages that are left make of the desks, the text and the marks what all make of those at first
abbrev pub invariant-loop-n : goal.invariant-loop-n
invariant-loop-n g l = record {
  desks : passed_desks (sent_from l.number (l.n + 1) (drop l.n l.packet.messages)) l.self ≡ passed_desks (sent_from l.number 1 l.packet.messages) l.initial.self;
  text : l.out.text.items ++ kept_lines l.initial.out.keeps_lines (passed_moments (sent_from l.number (l.n + 1) (drop l.n l.packet.messages)) l.self)
      ≡ l.initial.out.text.items ++ kept_lines l.initial.out.keeps_lines (passed_moments (sent_from l.number 1 l.packet.messages) l.initial.self);
  changed : changed_through l.out.changed (passed_moments (sent_from l.number (l.n + 1) (drop l.n l.packet.messages)) l.self)
      ≡ changed_through l.initial.out.changed (passed_moments (sent_from l.number 1 l.packet.messages) l.initial.self);
  keeps : l.out.keeps_lines ≡ l.initial.out.keeps_lines;
  front : BeginsWith l.out.text.items l.initial.out.text.items;
}
