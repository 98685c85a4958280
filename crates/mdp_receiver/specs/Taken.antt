-- What became of a datagram, by what it says and the events that came before.
use Rattle.std.specs.Prelude.{ℕ, ℤ, ◌+◌, List, [], ◌∷◌, ◌++◌, Option, Some, None}
use Rattle.mdp_sbe.specs.declared.refusal.Refusal.{Refusal}
use Rattle.mdp_arbiter.specs.Accepted.{Event, came, recovered, closed}
use Rattle.mdp_arbiter.specs.Channel.{Channel}
use Rattle.mdp_arbiter.specs.Fates.{packet_fate, snapshot_fate}
use Rattle.mdp_arbiter.specs.Machine.{state_at}
use Rattle.mdp_arbiter.specs.declared.fate.SnapshotFate.{SnapshotFate}
use Rattle.mdp_arbiter.specs.declared.fate.SnapshotFate.TheVariants as fates
use Rattle.mdp_receiver.specs.Said.{Said, brings, refused}
use Rattle.mdp_receiver.specs.declared.taken.SnapshotCounts.{SnapshotCounts}
use Rattle.mdp_receiver.specs.declared.taken.Taken.{Taken}
use Rattle.mdp_receiver.specs.declared.taken.Taken.TheVariants.{Packet, Snapshots, Refused}

abbrev pub no_counts : SnapshotCounts
no_counts = record { news = 0; older = 0; unlisted = 0; after_close = 0 }

-- one snapshot more, of which this became
abbrev pub with_fate : SnapshotFate → SnapshotCounts → SnapshotCounts
with_fate fates.News c = record c { news = c.news + 1 }
with_fate fates.Older c = record c { older = c.older + 1 }
with_fate fates.Unlisted c = record c { unlisted = c.unlisted + 1 }
with_fate fates.AfterClose c = record c { after_close = c.after_close + 1 }

abbrev pub count_all : SnapshotCounts → ℕ
count_all c = c.news + c.older + c.unlisted + c.after_close

-- of snapshots one after another, the first of which comes after these events
abbrev pub counts_after : List ℤ → List Event → List Event → SnapshotCounts → SnapshotCounts
counts_after ids es [] c = c
counts_after ids es (recovered s ∷ more) c =
    counts_after ids (es ++ recovered s ∷ []) more (with_fate (snapshot_fate ids es s) c)
counts_after ids es (came p ∷ more) c = counts_after ids (es ++ came p ∷ []) more c
counts_after ids es (closed ∷ more) c = counts_after ids (es ++ closed ∷ []) more c

abbrev pub taken_by : Channel → List Event → List Event → Taken
taken_by channel es [] = Snapshots no_counts
taken_by channel es (came p ∷ more) = Packet (packet_fate channel es (state_at channel es) p.number)
taken_by channel es (recovered s ∷ more) = Snapshots (counts_after channel.ids es (recovered s ∷ more) no_counts)
taken_by channel es (closed ∷ more) = Snapshots (counts_after channel.ids es (closed ∷ more) no_counts)

-- why it was refused, if it was
abbrev pub refusal_told : Taken → Option Refusal
refusal_told (Packet _) = None
refusal_told (Snapshots _) = None
refusal_told (Refused refusal) = Some refusal

-- what became of a datagram that says this, after these events
abbrev pub taken_of : Channel → List Event → Said → Taken
taken_of channel es (brings events) = taken_by channel es events
taken_of channel es (refused refusal) = Refused refusal
