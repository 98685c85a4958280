-- Which moves of an event are a jump: where the receiver is lost the first one, if there is any, and else none.
use Rattle.std.proofs.Common.{◌≡◌, ℕ, ◌+◌, ◌≤◌, ◌<◌, ◌⊎◌, inl, inr, Bool, true, false, List, [], ◌∷◌, ◌++◌, map, refl, ap, subst, ◌∙◌, arith}
use Rattle.std.specs.Prelude.{leb, not, ◌||◌, Option, Some}
use Rattle.std.proofs.lemmas.Bool.{lt-leb}
use Rattle.std.proofs.lemmas.Bool.Decides.{leb_tells}
use Rattle.mdp_templates.specs.Packet.{PacketContent}
use Rattle.mdp_templates.specs.Snapshot.{SnapshotContent}
use Rattle.mdp_arbiter.specs.Accepted.{Event, accepted_packets, first_of, highest, highest_of, is_closed, newest_snapshots, recovered}
use Rattle.mdp_arbiter.specs.Arbiter.{View, is_lost_now, state}
use Rattle.mdp_arbiter.specs.Channel.{Channel}
use Rattle.mdp_arbiter.specs.Machine.{HaveNoJump, Move, Settles, State, after, after_all, are_fresh, has_run_ahead, is_lost, jump, jumped, least_last, next_move, passed, snapshots_of}
use Rattle.mdp_arbiter.specs.Standing.{StandsAt}
use Rattle.mdp_arbiter.proofs.Appended.{packets-recovered}
use Rattle.mdp_arbiter.proofs.Runs.{fresh_least, jump_is, move_is, not_lost}

-- ---- whether the receiver is lost

lost_by : (es : List Event) (v : View) (joined : Bool) → v.joined ≡ joined → StandsAt es v → not joined || leb (v.next + v.channel.room) v.top ≡ not joined || leb (v.next + v.channel.room) (highest es)
lost_by es v false e s = refl
lost_by es v true e s = elim (leb_tells (v.next + v.channel.room) (highest es)) [
  | inl t ↦ rw t.0 (let past : v.next + v.channel.room ≤ v.top = omega (arith, s.top, t.1) in elim (leb_tells (v.next + v.channel.room) v.top) [ inl u ↦ u.0 | inr u ↦ absurd (omega (arith, past, u.1)) ])
  | inr t ↦ rw t.0 (lt-leb _ _ (omega (arith, s.top, s.room, s.begun, t.1)))
]

-- an arbiter tells it as the events do
pub lost_at : (es : List Event) (v : View) → StandsAt es v → is_lost_now v ≡ is_lost v.channel es (state v)
lost_at es v s = subst (λ (b : Bool). not b || leb (v.next + v.channel.room) v.top ≡ not b || leb (v.next + v.channel.room) (highest es)) refl (lost_by es v v.joined refl s)

-- a snapshot leaves it
pub lost-recovered : (channel : Channel) (es : List Event) (snapshot : SnapshotContent) (s : State) → is_lost channel (es ++ recovered snapshot ∷ []) s ≡ is_lost channel es s
lost-recovered channel es snapshot s = ap (λ (ps : List PacketContent). not s.joined || has_run_ahead channel.room s.next (highest_of ps)) (packets-recovered es snapshot)

-- ---- one move

-- where it is not lost, a packet passes
passes : (channel : Channel) (es : List Event) (s : State) (m : Move) → is_lost channel es s ≡ false → next_move channel es s ≡ Some m → (p : PacketContent) × (m ≡ passed p)
passes channel es s m found e = elim (move_is (is_closed es) (is_lost channel es s) (are_fresh channel.room (highest es) (newest_snapshots channel.ids es)) (first_of s.next (accepted_packets es)) (jump s.next (snapshots_of (newest_snapshots channel.ids es))) m e) [
  | inl t ↦ absurd (let lost : is_lost channel es s ≡ true = t.0 in cc)
  | inr t ↦ (t.0, t.2)
]

-- and then it is not lost
found_after : (channel : Channel) (es : List Event) (s : State) (p : PacketContent) → is_lost channel es s ≡ false → is_lost channel es (after s (passed p)) ≡ false
found_after channel es s p found =
    let is = not_lost s.joined (leb (s.next + channel.room) (highest es)) found in
    let far : highest es < s.next + channel.room = elim (leb_tells (s.next + channel.room) (highest es)) [ inl t ↦ absurd (let no : leb (s.next + channel.room) (highest es) ≡ false = is.1 in cc) | inr t ↦ t.1 ] in
    rw (is.0, lt-leb (s.next + 1 + channel.room) (highest es) (omega (arith, far))) refl

-- A jump begins at the number that comes next. It ends right after the least of the snapshots that it takes, and leaves the receiver found.
record IsJumpAt (channel : Channel) (es : List Event) (s : State) (m : Move) : Type 0 where
  pub least : ℕ
  pub snapshots : List SnapshotContent
  pub is : m ≡ jumped s.next (least + 1) snapshots
  pub least_is : least_last snapshots ≡ Some least
  pub found : is_lost channel es (after s m) ≡ false

-- where it is lost, recovery jumps
jumps : (channel : Channel) (es : List Event) (s : State) (m : Move) → is_lost channel es s ≡ true → next_move channel es s ≡ Some m → IsJumpAt channel es s m
jumps channel es s m lost e = elim (move_is (is_closed es) (is_lost channel es s) (are_fresh channel.room (highest es) (newest_snapshots channel.ids es)) (first_of s.next (accepted_packets es)) (jump s.next (snapshots_of (newest_snapshots channel.ids es))) m e) [
  | inl t ↦
      let newest = newest_snapshots channel.ids es in
      let by = jump_is s.next (snapshots_of newest) (least_last (snapshots_of newest)) m t.2 in
      let past : highest es ≤ by.0 + channel.room = fresh_least channel.room (highest es) by.0 newest t.1 by.1 in
      record {
        least = by.0;
        snapshots = snapshots_of newest;
        is = by.2;
        least_is = by.1;
        found = rw (by.2, lt-leb (by.0 + 1 + channel.room) (highest es) (omega (arith, past))) refl;
      }
  | inr t ↦ absurd (let found : is_lost channel es s ≡ false = t.3 in cc)
]

-- ---- the moves until none is possible

-- from where the receiver is not lost, packets pass, and it stays so
pub record PassOn (channel : Channel) (es : List Event) (s : State) (ms : List Move) : Type 0 where
  pub none : HaveNoJump ms
  pub bases : (after_all s ms).bases ≡ s.bases
  pub found : is_lost channel es (after_all s ms) ≡ false

pass_by : (channel : Channel) (es : List Event) (m : Move) (ms : List Move) (s : State) → (p : PacketContent) × (m ≡ passed p) → Settles channel es (after s m) ms → is_lost channel es s ≡ false
    → ((t : State) → Settles channel es t ms → is_lost channel es t ≡ false → PassOn channel es t ms) → PassOn channel es s (m ∷ ms)
pass_by channel es m ms s (p, e) is found later =
    let on = later (after s (passed p)) (subst (λ (x : Move). Settles channel es (after s x) ms) e is) (found_after channel es s p found) in
    rw e (record { none = on.none; bases = on.bases; found = on.found })

pub pass_on : (channel : Channel) (es : List Event) (ms : List Move) (s : State) → Settles channel es s ms → is_lost channel es s ≡ false → PassOn channel es s ms
pass_on channel es [] s is found = record { none = tt; bases = refl; found = found }
pass_on channel es (m ∷ ms) s is found = pass_by channel es m ms s (passes channel es s m found is.0) is.1 found (pass_on channel es ms)

-- from where it is lost, nothing moves, or a jump comes first and then packets pass
pub record JumpsFirst (channel : Channel) (es : List Event) (s : State) (ms : List Move) : Type 0 where
  pub least : ℕ
  pub snapshots : List SnapshotContent
  pub later : List Move
  pub is : ms ≡ jumped s.next (least + 1) snapshots ∷ later
  pub none : HaveNoJump later
  pub least_is : least_last (snapshots_of (after_all s ms).bases) ≡ Some least
  pub found : is_lost channel es (after_all s ms) ≡ false

all_of : (snapshots : List SnapshotContent) → snapshots_of (map (λ (s : SnapshotContent). Some s) snapshots) ≡ snapshots
all_of [] = refl
all_of (s ∷ snapshots) = ap (λ t. s ∷ t) (all_of snapshots)

jumps_first : (channel : Channel) (es : List Event) (m : Move) (ms : List Move) (s : State) → IsJumpAt channel es s m → Settles channel es (after s m) ms → JumpsFirst channel es s (m ∷ ms)
jumps_first channel es m ms s j is =
    let on = pass_on channel es ms (after s m) is j.found in
    let taken : (after s m).bases ≡ map (λ (x : SnapshotContent). Some x) j.snapshots = ap (λ (x : Move). (after s x).bases) j.is in
    record {
      least = j.least;
      snapshots = j.snapshots;
      later = ms;
      is = ap (λ (x : Move). x ∷ ms) j.is;
      none = on.none;
      least_is = ap (λ (bases : List (Option SnapshotContent)). least_last (snapshots_of bases)) (on.bases ∙ taken) ∙ ap least_last (all_of j.snapshots) ∙ j.least_is;
      found = on.found;
    }

pub jump_or_none : (channel : Channel) (es : List Event) (ms : List Move) (s : State) → Settles channel es s ms → is_lost channel es s ≡ true → (ms ≡ []) ⊎ JumpsFirst channel es s ms
jump_or_none channel es [] s is lost = inl refl
jump_or_none channel es (m ∷ ms) s is lost = inr (jumps_first channel es m ms s (jumps channel es s m lost is.0) is.1)
