-- What the code takes in, whether that passes at once, and which desks a step leaves and which moments it shows, as
-- functions.
use Rattle.std.specs.Prelude.{Bool, false, List, [], ◌∷◌, Option}
use Rattle.mdp_templates.specs.Snapshot.{SnapshotContent}
use Rattle.mdp_books.specs.Feed.{sent_in}
use Rattle.mdp_arbiter.specs.Accepted.{Event as Accepted}
use Rattle.mdp_arbiter.specs.Accepted.Event.{came, recovered, closed}
use Rattle.mdp_arbiter.specs.Arbiter.{View as ArbiterView}
use Rattle.mdp_arbiter.specs.Packets.{passes_at_once}
use Rattle.mdp_arbiter.specs.declared.step.Step.{Step}
use Rattle.mdp_arbiter.specs.declared.step.Step.TheVariants.{Pass, Jump}
use Rattle.mdp_desks.specs.declared.desk.Desk.{Desk}
use Rattle.mdp_engine.specs.declared.event.Event.{Event}
use Rattle.mdp_engine.specs.declared.event.Event.TheVariants.{Packet, Snapshot, Close}
use Rattle.mdp_desks.specs.Desks.{passed_desks, passed_moments, rebased_desks}
use Rattle.mdp_desks.specs.Moments.{Moment, at_jump}

-- the event of the recovery machine that came
abbrev pub event_of : {A : Type 0} → Event A → Accepted
event_of (Packet packet) = came packet
event_of (Snapshot snapshot) = recovered snapshot.value
event_of Close = closed

-- whether an event is a packet that passes at once
abbrev pub passes_now : Accepted → ArbiterView → Bool
passes_now (came packet) v = passes_at_once packet.number v
passes_now (recovered snapshot) v = false
passes_now closed v = false

-- the desks after a step, where a jump took these snapshots
abbrev pub stepped_desks : {A : Type 0} → Step A → List (Option SnapshotContent) → List Desk → List Desk
stepped_desks (Pass packet) bases desks = passed_desks (sent_in packet) desks
stepped_desks (Jump old new) bases desks = rebased_desks bases desks

-- the moments that a step adds
abbrev pub stepped_moments : {A : Type 0} → Step A → List Desk → List Moment
stepped_moments (Pass packet) desks = passed_moments (sent_in packet) desks
stepped_moments (Jump old new) desks = at_jump old new ∷ []
