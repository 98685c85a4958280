-- What became of a datagram, by plain numbers.
use Rattle.std.specs.Prelude.{ℕ, Option, None, Some}
use Rattle.mdp_arbiter.specs.declared.fate.PacketFate.{PacketFate}
use Rattle.mdp_arbiter.specs.declared.fate.PacketFate.TheVariants.{First, Repeat, Past, Late, AfterClose}
use Rattle.mdp_receiver.specs.declared.moved.Jump.{Jump}
use Rattle.mdp_receiver.specs.declared.moved.Loss.{Loss}
use Rattle.mdp_receiver.specs.declared.moved.Moved.{Moved}
use Rattle.mdp_receiver.specs.declared.taken.SnapshotCounts.{SnapshotCounts}
use Rattle.mdp_receiver.specs.declared.taken.Taken.{Taken}
use Rattle.mdp_receiver.specs.declared.taken.Taken.TheVariants.{Packet, Snapshots, Refused}
use Rattle.mdp_c.specs.declared.became.Became.{Became}

-- nothing is told yet
abbrev nothing : Became
nothing = record {
  kind = 0;
  fate = 0;
  has_loss = 0;
  has_jump = 0;
  news = 0;
  older = 0;
  unlisted = 0;
  after_close = 0;
  loss_next = 0;
  loss_highest = 0;
  jump_old = 0;
  jump_new = 0;
}

abbrev pub fate_number : PacketFate → ℕ
fate_number First = 0
fate_number Repeat = 1
fate_number Past = 2
fate_number Late = 3
fate_number AfterClose = 4

abbrev pub packet_told : PacketFate → Became
packet_told what = record nothing { kind = 1; fate = fate_number what }

abbrev pub counts_told : SnapshotCounts → Became
counts_told counts = record nothing {
  kind = 2;
  news = counts.news;
  older = counts.older;
  unlisted = counts.unlisted;
  after_close = counts.after_close;
}

abbrev pub loss_told : Became → Option Loss → Became
loss_told b (Some loss) = record b { has_loss = 1; loss_next = loss.next; loss_highest = loss.highest }
loss_told b None = b

abbrev pub jump_told : Became → Option Jump → Became
jump_told b (Some jump) = record b { has_jump = 1; jump_old = jump.old; jump_new = jump.new }
jump_told b None = b

-- with a loss and a jump, if there are any
abbrev pub moves_told : Became → Moved → Became
moves_told b moved = jump_told (loss_told b moved.loss) moved.jump

-- nothing is told of a datagram that is refused
abbrev pub became_of : Taken → Moved → Option Became
became_of (Packet what) moved = Some (moves_told (packet_told what) moved)
became_of (Snapshots counts) moved = Some (moves_told (counts_told counts) moved)
became_of (Refused _) moved = None
