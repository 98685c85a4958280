-- The moves of honest events are the complete feed's.
use Rattle.std.proofs.Common.{◌≡◌, ◌≤◌, ℕ, ℤ, suc, ◌+◌, Bool, true, false, cond, eqb, List, [], ◌∷◌, ◌++◌, map, refl, sym, ap, subst, ◌∙◌, append_assoc, arith}
use Rattle.std.specs.Prelude.{Option, Some, None, IfSome, All}
use Rattle.std.specs.List.{AllZip, AllByRecursion}
use Rattle.std.proofs.lemmas.List.{append-nil}
use Rattle.mdp_templates.specs.Packet.{PacketContent}
use Rattle.mdp_templates.specs.Snapshot.{SnapshotContent}
use Rattle.mdp_templates.specs.declared.instrument.Instrument.{Instrument}
use Rattle.mdp_arbiter.specs.Accepted.{Event, came, recovered, closed, accepted_packets, first_of, newest_snapshot}
use Rattle.mdp_arbiter.specs.Machine.{Move, State, first_state, after, after_all, settle, go_on, Settles}
use Rattle.mdp_arbiter.specs.Machine.Move.{passed, jumped}
use Rattle.mdp_templates.specs.Instrument.{ids_of}
use Rattle.mdp_arbiter.specs.Channel.{ListedChannel, channel_of}
use Rattle.mdp_arbiter.proofs.Runs.{settle_settles, law_of_passes}
use Rattle.mdp_arbiter.proofs.Jumps.{law_of_jumps}
use Rattle.mdp_engine.specs.Feed.{IsIn, IsSnapshotOf, IsJumpedTo}
use Rattle.mdp_engine.specs.Agreed.{AreOf}
use Rattle.mdp_engine.specs.Honest.{IsHonest, HonestMovesAgree}

-- ---- fronts

-- the first packet of a number stays the first, whatever comes later
first_by : (k : ℕ) (q p : PacketContent) (rest more : Option PacketContent) (b : Bool) → (rest ≡ Some p → more ≡ Some p) → cond b (Some q) rest ≡ Some p → cond b (Some q) more ≡ Some p
first_by k q p rest more true later is = is
first_by k q p rest more false later is = later is

first_of-front : (k : ℕ) (xs ys : List Event) (p : PacketContent) → first_of k (accepted_packets xs) ≡ Some p → first_of k (accepted_packets (xs ++ ys)) ≡ Some p
first_of-front k [] ys p is = absurd cc
first_of-front k (came q ∷ xs) ys p is = first_by k q p (first_of k (accepted_packets xs)) (first_of k (accepted_packets (xs ++ ys))) (eqb k q.number) (first_of-front k xs ys p) is
first_of-front k (recovered s ∷ xs) ys p is = first_of-front k xs ys p is
first_of-front k (closed ∷ xs) ys p is = absurd cc

front_packet : (listed : List Instrument) (feed : List PacketContent) (xs ys : List Event) (k : ℕ) (first : Option PacketContent) → IsHonest listed feed (xs ++ ys) → first_of k (accepted_packets xs) ≡ first → IfSome first (IsIn feed)
front_packet listed feed xs ys k None honest is = tt
front_packet listed feed xs ys k (Some p) honest is = subst (λ (o : Option PacketContent). IfSome o (IsIn feed)) (first_of-front k xs ys p is) (honest.packets k)

pub honest_front : (listed : List Instrument) (feed : List PacketContent) (xs ys : List Event) → IsHonest listed feed (xs ++ ys) → IsHonest listed feed xs
honest_front listed feed xs ys honest = record {
  complete = honest.complete;
  packets = λ k. front_packet listed feed xs ys k (first_of k (accepted_packets xs)) honest refl;
  snapshots = λ front rest is. honest.snapshots front (rest ++ ys) (ap (λ (t : List Event). t ++ ys) is ∙ append_assoc front rest ys);
}

-- ---- the moves of one event

jumped_to : (feed : List PacketContent) (es : List Event) (new : ℕ) (listed : List Instrument) (snapshots : List SnapshotContent)
    → map (λ (id : ℤ). newest_snapshot id es) (ids_of listed) ≡ map (λ (s : SnapshotContent). Some s) snapshots
    → AllByRecursion (λ (i : Instrument). IfSome (newest_snapshot i.id es) (IsSnapshotOf feed i)) listed
    → All (λ (s : SnapshotContent). new ≤ s.last + 1) snapshots
    → AllZip (λ (i : Instrument) (s : SnapshotContent). IsJumpedTo feed new i s) listed snapshots
jumped_to feed es new [] [] newest honest covered = tt
jumped_to feed es new [] (s ∷ snapshots) newest honest covered = absurd cc
jumped_to feed es new (i ∷ listed) [] newest honest covered = absurd cc
jumped_to feed es new (i ∷ listed) (s ∷ snapshots) newest honest covered =
    let here : newest_snapshot i.id es ≡ Some s = cc in
    let others : map (λ (id : ℤ). newest_snapshot id es) (ids_of listed) ≡ map (λ (t : SnapshotContent). Some t) snapshots = cc in
    let jump : IsJumpedTo feed new i s = record { covers = covered 0 s (omega arith); is = subst (λ (o : Option SnapshotContent). IfSome o (IsSnapshotOf feed i)) here honest.0 } in
    (jump, jumped_to feed es new listed snapshots others honest.1 (λ k d within. covered (suc k) d (omega (arith, within))))

settled_are : (channel : ListedChannel) (feed : List PacketContent) (es : List Event) (s : State) (moves : List Move) → IsHonest channel.listed feed es → Settles (channel_of channel) es s moves → AreOf channel.listed feed s.next moves
settled_are channel feed es s [] honest is = tt
settled_are channel feed es s (passed p ∷ moves) honest is =
    let first = law_of_passes (channel_of channel) es s p is.0 in
    let at : IsIn feed p = subst (λ (o : Option PacketContent). IfSome o (IsIn feed)) first.1 (honest.packets s.next) in
    (first.0, at, settled_are channel feed es (after s (passed p)) moves honest is.1)
settled_are channel feed es s (jumped old new snapshots ∷ moves) honest is =
    let recovery = (law_of_jumps (channel_of channel) es s old new snapshots is.0).1 in
    let books = honest.snapshots es [] (sym (append-nil es)) in
    (jumped_to feed es new channel.listed snapshots recovery.newest books recovery.covered, settled_are channel feed es (after s (jumped old new snapshots)) moves honest is.1)

-- ---- the moves of all events

are-append : (listed : List Instrument) (feed : List PacketContent) (s : State) (moves more : List Move) → AreOf listed feed s.next moves → AreOf listed feed (after_all s moves).next more → AreOf listed feed s.next (moves ++ more)
are-append listed feed s [] more are later = later
are-append listed feed s (passed p ∷ moves) more (number, at, are) later = (number, at, are-append listed feed (after s (passed p)) moves more are later)
are-append listed feed s (jumped old new snapshots ∷ moves) more (is, are) later = (is, are-append listed feed (after s (jumped old new snapshots)) moves more are later)

go_on_are : (channel : ListedChannel) (feed : List PacketContent) (past es : List Event) (s : State) → IsHonest channel.listed feed (past ++ es) → AreOf channel.listed feed s.next (go_on (channel_of channel) past s es)
go_on_are channel feed past [] s honest = tt
go_on_are channel feed past (e ∷ es) s honest =
    let now = past ++ e ∷ [] in
    let whole : IsHonest channel.listed feed (now ++ es) = subst (λ (t : List Event). IsHonest channel.listed feed t) (sym (append_assoc past (e ∷ []) es)) honest in
    let moves = settle (channel_of channel) now s in
    are-append channel.listed feed s moves (go_on (channel_of channel) now (after_all s moves) es)
    (settled_are channel feed now s moves (honest_front channel.listed feed now es whole) (settle_settles (channel_of channel) now s))
    (go_on_are channel feed now es (after_all s moves) whole)

pub honest_moves_agree : HonestMovesAgree
honest_moves_agree channel feed es honest = go_on_are channel feed [] es (first_state (channel_of channel)) honest
