-- Packets, snapshots, a channel and an arbiter's view are stored as the tuples of their fields.
use Rattle.std.specs.Prelude.{ℕ, ℤ, Bool, List, Option, refl}
use Rattle.std.specs.Ordering.{nat_cmp}
use Rattle.std.specs.FinMap.{FinMap, code}
use Rattle.std.specs.Coded.{Coded, code_by, coded×, coded_ℕ, coded_ℤ, coded_bool, coded_list, coded_option}
use Rattle.mdp_templates.specs.Packet.{MessageContent, PacketContent}
use Rattle.mdp_templates.specs.Snapshot.{SnapshotContent}
use Rattle.mdp_templates.specs.declared.entry.Entry.{Entry}
use Rattle.mdp_templates.specs.contracts.entry.Entry as entry
use Rattle.mdp_templates.specs.contracts.snapshot.Snapshot as snapshot
use Rattle.mdp_arbiter.specs.contracts.start.Start as start
use Rattle.mdp_arbiter.specs.declared.start.Start.{Start}
use Rattle.mdp_arbiter.specs.Channel.{Channel}
use Rattle.mdp_arbiter.specs.Arbiter.{View}

abbrev pub message_code : Coded MessageContent
message_code =
    code_by (List Entry × Bool) (coded× (coded_list entry.the_row.coded) coded_bool)
    (λ m. (m.entries, m.end))
    (λ t. record { entries = t.0; end = t.1 })
    (λ _. refl)

abbrev pub packet_code : Coded PacketContent
packet_code =
    code_by (ℕ × List MessageContent) (coded× coded_ℕ (coded_list message_code))
    (λ p. (p.number, p.messages))
    (λ t. record { number = t.0; messages = t.1 })
    (λ _. refl)

-- each listed security's snapshot, where there is one
abbrev pub Snapshots : Type 0
Snapshots = List (Option SnapshotContent)

abbrev pub snapshots_code : Coded Snapshots
snapshots_code = coded_list (coded_option snapshot.the_row.coded)

abbrev pub channel_code : Coded Channel
channel_code =
    code_by (ℕ × (List ℤ × Start)) (coded× coded_ℕ (coded× (coded_list coded_ℤ) start.the_row.coded))
    (λ c. (c.room, (c.ids, c.start)))
    (λ t. record { room = t.0; ids = t.1.0; start = t.1.1 })
    (λ _. refl)

abbrev pub view_code : Coded View
view_code =
    code_by
    ((Channel × (ℕ × ℕ)) × (((Bool × Bool) × FinMap nat_cmp PacketContent) × (Snapshots × Snapshots)))
    (
    coded× (coded× channel_code (coded× coded_ℕ coded_ℕ))
    (coded× (coded× (coded× coded_bool coded_bool) (code coded_ℕ packet_code)) (coded× snapshots_code snapshots_code))
    )
    (λ v. ((v.channel, (v.next, v.top)), (((v.joined, v.is_closed), v.held), (v.newest, v.bases))))
    (λ t. record {
      channel = t.0.0;
      next = t.0.1.0;
      top = t.0.1.1;
      joined = t.1.0.0.0;
      is_closed = t.1.0.0.1;
      held = t.1.0.1;
      newest = t.1.1.0;
      bases = t.1.1.1;
    })
    (λ _. refl)
