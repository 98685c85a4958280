-- An arbiter goes on standing at the events.
use Rattle.std.proofs.Common.{◌≡◌, ℕ, ℤ, zero, suc, ◌+◌, ◌-◌, ◌≤◌, ◌<◌, ◌⊎◌, Bool, true, false, cond, ltb, eqb, List, [], ◌∷◌, ◌++◌, refl, arith, ap, inl, inr}
use Rattle.std.specs.Prelude.{max, leb, Option, None, Some, IfSome, IsSome, is_some}
use Rattle.std.specs.FinMap.{get}
use Rattle.std.specs.Ordering.{int_eq}
use Rattle.std.proofs.lemmas.Grind.{common_steps}
use Rattle.std.proofs.lemmas.Bool.{le-leb, lt-leb, le-ltb}
use Rattle.std.proofs.lemmas.Bool.Decides.{leb_tells, eqb_tells, Decides-int_eq}
use Rattle.mdp_templates.specs.Packet.{PacketContent}
use Rattle.mdp_templates.specs.Snapshot.{SnapshotContent}
use Rattle.mdp_window.specs.declared.window.Put.{Put}
use Rattle.mdp_window.specs.declared.window.Put.TheVariants.{Kept, Back, Memory}
use Rattle.mdp_arbiter.specs.declared.step.Step.{Step}
use Rattle.mdp_arbiter.specs.Channel.{Channel}
use Rattle.mdp_arbiter.specs.Accepted.{Event, came, recovered, closed, is_closed, accepted_packets, highest, first_of, is_newer, newer_of}
use Rattle.mdp_arbiter.specs.Machine.{Move, State, next_move}
use Rattle.mdp_arbiter.specs.Arbiter.{View, state, least_held, steps_left}
use Rattle.mdp_arbiter.specs.Packets.{HoldsPacket, Receives, is_taken_in}
use Rattle.mdp_arbiter.specs.Snapshots.{IsNoNews, newest_after, Renews}
use Rattle.mdp_arbiter.specs.Moves.{seen_move, MovedBy, Moves, Answers, after_move}
use Rattle.mdp_arbiter.specs.Standing.{StandsAt, StepsAs}
use Rattle.mdp_arbiter.proofs.Appended.{packets-closed, snapshots-closed, closed-closed, newest-same, packets-came, closed-came, snapshots-came, highest-more, first-more, first-apart, first-stays, first-within, packets-after_close, snapshots-after_close, closed-after_close, packets-recovered, closed-recovered, newest_snapshots-newest_after}

-- ---- a close

pub close_stands : (es : List Event) (old : View) → StandsAt es old → StandsAt (es ++ closed ∷ []) (record old { is_closed = true })
close_stands es old s = record {
  room = s.room;
  begun = s.begun;
  first = s.first;
  most = s.most;
  top = rw (packets-closed es) s.top;
  is_closed = rw (closed-closed es) refl;
  newest = rw (newest-same old.channel.ids es (es ++ closed ∷ []) (snapshots-closed es)) s.newest;
  held = λ k. rw (packets-closed es) (s.held k);
}

-- after a close nothing counts
after_close_stands : (es : List Event) (e : Event) (v : View) → v.is_closed ≡ true → StandsAt es v → StandsAt (es ++ e ∷ []) v
after_close_stands es e v c s =
    let shut : is_closed es ≡ true = rw (← s.is_closed) c in
    record {
      room = s.room;
      begun = s.begun;
      first = s.first;
      most = s.most;
      top = rw (packets-after_close es e shut) s.top;
      is_closed = rw (closed-after_close es e shut) c;
      newest = rw (newest-same v.channel.ids es (es ++ e ∷ []) (snapshots-after_close es e shut)) s.newest;
      held = λ k. rw (packets-after_close es e shut) (s.held k);
    }

-- ---- moves

seen_by : (es : List Event) (v : View) → StandsAt es v → (joined : Bool) → v.joined ≡ joined → seen_move v ≡ next_move v.channel es (state v)
seen_by es v s false e = let t : v.top ≡ highest es = omega (arith, s.top, s.first e) in rw (s.is_closed, e, t, s.newest) refl
seen_by es v s true e = elim (leb_tells (v.next + v.channel.room) v.top) [
  | inl p ↦ let t : v.top ≡ highest es = omega (arith, s.top, p.1, s.room) in
      let l : leb (v.next + v.channel.room) (highest es) ≡ true = le-leb _ _ (omega (arith, p.1, t)) in
      rw (s.is_closed, e, p.0, l, t, s.newest) refl
  | inr p ↦ let l : leb (v.next + v.channel.room) (highest es) ≡ false = lt-leb _ _ (omega (arith, p.1, s.top)) in
      let b : ltb v.next (max v.next (highest es + 1 - v.channel.room)) ≡ false = le-ltb _ _ (omega (arith, p.1, s.top)) in
      rw (s.is_closed, e, p.0, l, s.held v.next, b) refl
]

-- the move that is seen is the machine's
seen_is : (es : List Event) (v : View) → StandsAt es v → seen_move v ≡ next_move v.channel es (state v)
seen_is es v s = seen_by es v s v.joined refl

from_both : {A : Type 0} (a b c k : ℕ) (x : Option A) → max a b ≡ c → cond (ltb k a) None (cond (ltb k b) None x) ≡ cond (ltb k c) None x
from_both a b c k x e = grind (arith, common_steps)

-- a move leaves an arbiter standing at the same events
moved_stands : (es : List Event) (old new : View) (m : Move) → StandsAt es old → MovedBy m old new → StandsAt es new
moved_stands es old new m s d = record {
  room = rw d.channel s.room;
  begun = omega (arith, s.begun, d.on);
  first = λ waits. absurd (let joined : new.joined ≡ true = d.joined in cc);
  most = d.most;
  top = omega (arith, d.top, s.top, d.on);
  is_closed = rw d.is_closed s.is_closed;
  newest = rw (d.newest, d.channel) s.newest;
  held = λ k. rw (d.held k, s.held k, d.channel) (from_both new.next (max old.next (highest es + 1 - old.channel.room)) (max new.next (highest es + 1 - old.channel.room)) k _ (omega (arith, d.on)));
}

moves_stands : (es : List Event) (old new : View) (m : Option Move) → StandsAt es old → Moves m old new → StandsAt es new
moves_stands es old new None s d = rw d s
moves_stands es old new (Some m) s d = moved_stands es old new m s d

state_after : (old new : View) (m : Option Move) → Moves m old new → state new ≡ after_move (state old) m
state_after old new None d = rw d refl
state_after old new (Some m) d = d.state

pub channel_after : (old new : View) (m : Option Move) → Moves m old new → new.channel ≡ old.channel
channel_after old new None d = rw d refl
channel_after old new (Some m) d = d.channel

-- a move leaves fewer, and the next number goes on within its range
pub raises_next : {A : Type 0} (old new : View) (m : Option Move) (r : Option (Step A)) → Answers m r → Moves m old new → IfSome r (λ (s : Step A). (steps_left new < steps_left old) × (old.next ≤ new.next) × (new.next ≤ 4294967296))
raises_next old new None None a d = tt
raises_next old new None (Some s) a d = elim a [ ]
raises_next old new (Some m) None a d = tt
raises_next old new (Some m) (Some s) a d = (d.left, d.on, omega (arith, d.top, d.most))

-- what a step does, as the machine has it
pub steps_as : {A : Type 0} (es : List Event) (old new : View) (r : Option (Step A)) → StandsAt es old → Answers (seen_move old) r → Moves (seen_move old) old new → StepsAs es old new r
steps_as es old new r s a d = record {
  stands = moves_stands es old new (seen_move old) s d;
  answer = rw (← seen_is es old s) a;
  state = rw (← seen_is es old s) (state_after old new (seen_move old) d);
}

-- ---- packets

with_first : (k a b : ℕ) (ps : List PacketContent) (p : PacketContent) → a ≤ b → first_of p.number ps ≡ None
    → cond (ltb k b) None (cond (eqb k p.number) (Some p) (cond (ltb k a) None (first_of k ps))) ≡ cond (ltb k b) None (first_of k (ps ++ p ∷ []))
with_first k a b ps p ab none = elim (leb_tells (suc k) b) [
  | inl t ↦ rw t.0 refl
  | inr t ↦ elim (eqb_tells k p.number) [
    | inl u ↦ let absent : first_of k ps ≡ None = rw u.1 none in rw (t.0, first-more k ps p absent, u.0) refl
    | inr u ↦ rw (t.0, u.0, le-ltb k a (omega (arith, t.1, ab)), first-apart k ps p u.0) refl
  ]
]

same_first : (k a b : ℕ) (ps : List PacketContent) (p : PacketContent) → b ≡ a → (p.number < a) ⊎ (is_some (first_of p.number ps) ≡ true)
    → cond (ltb k a) None (first_of k ps) ≡ cond (ltb k b) None (first_of k (ps ++ p ∷ []))
same_first k a b ps p e why = elim (leb_tells (suc k) a) [
  | inl t ↦ rw (e, t.0) refl
  | inr t ↦ elim (eqb_tells k p.number) [
    | inl u ↦ elim why [
      | inl low ↦ absurd (omega (arith, t.1, u.1, low))
      | inr some ↦ let here : is_some (first_of k ps) ≡ true = rw u.1 some in rw (e, t.0, first-stays k ps p here) refl
    ]
    | inr u ↦ rw (e, t.0, first-apart k ps p u.0) refl
  ]
]

-- a packet that is held
held_stands : (es : List Event) (p : PacketContent) (old new : View) → HoldsPacket p old new → StandsAt es old → StandsAt (es ++ came p ∷ []) new
held_stands es p old new k s =
    let opened : is_closed es ≡ false = rw (← s.is_closed) k.before.is_closed in
    let next : new.next ≡ old.next = ap (λ (t : State). t.next) k.state in
    let joined : new.joined ≡ old.joined = ap (λ (t : State). t.joined) k.state in
    let room : new.channel.room ≡ old.channel.room = ap (λ (c : Channel). c.room) k.channel in
    let kept : max old.next (highest es + 1 - old.channel.room) ≤ p.number = omega (arith, k.before.ahead, s.top, s.room) in
    let absent : first_of p.number (accepted_packets es) ≡ None =
    rw (s.held p.number, le-ltb p.number (max old.next (highest es + 1 - old.channel.room)) kept) at k.before.absent in
    let least : least_held new ≡ max new.next (max (highest es) p.number + 1 - new.channel.room) = omega (arith, next, k.top, room, s.top, s.room) in
    record {
      room = rw k.channel s.room;
      begun = rw next s.begun;
      first = λ waits. rw next (s.first (rw joined at waits));
      most = k.most;
      top = rw (packets-came es p opened, highest-more (accepted_packets es) p) (omega (arith, next, k.top, s.top));
      is_closed = rw (closed-came es p, k.is_closed) s.is_closed;
      newest = rw (newest-same new.channel.ids es (es ++ came p ∷ []) (snapshots-came es p), k.newest, k.channel) s.newest;
      held = λ q. rw (packets-came es p opened, highest-more (accepted_packets es) p, k.held q, s.held q, least)
          (with_first q (max old.next (highest es + 1 - old.channel.room)) (max new.next (max (highest es) p.number + 1 - new.channel.room)) (accepted_packets es) p (omega (arith, next, room)) absent);
    }

some_from : {A : Type 0} (b : Bool) (x : Option A) → is_some (cond b None x) ≡ true → is_some x ≡ true
some_from true x h = cc
some_from false x h = h

-- a packet that is old or a repeat
back_stands : (es : List Event) (p : PacketContent) (v : View) → v.is_closed ≡ false → (p.number < least_held v) ⊎ IsSome (get v.held p.number)
    → StandsAt es v → StandsAt (es ++ came p ∷ []) v
back_stands es p v c why s =
    let opened : is_closed es ≡ false = rw (← s.is_closed) c in
    let cause : (p.number < max v.next (highest es + 1 - v.channel.room)) ⊎ (is_some (first_of p.number (accepted_packets es)) ≡ true) = elim why [
      | inl low ↦ inl (omega (arith, low, s.top, s.room))
      | inr held ↦ inr (some_from (ltb p.number (max v.next (highest es + 1 - v.channel.room))) _ (rw (s.held p.number) at held))
    ] in
    let within : p.number ≤ max (highest es) (v.next - 1) = elim cause [
      | inl low ↦ omega (arith, low, s.room, s.begun)
      | inr some ↦ omega (arith, first-within p.number (accepted_packets es) some)
    ] in
    let least : max v.next (max (highest es) p.number + 1 - v.channel.room) ≡ max v.next (highest es + 1 - v.channel.room) = omega (arith, within, s.room, s.begun) in
    record {
      room = s.room;
      begun = s.begun;
      first = s.first;
      most = s.most;
      top = rw (packets-came es p opened, highest-more (accepted_packets es) p) (omega (arith, within, s.top));
      is_closed = rw (closed-came es p) s.is_closed;
      newest = rw (newest-same v.channel.ids es (es ++ came p ∷ []) (snapshots-came es p)) s.newest;
      held = λ q. rw (packets-came es p opened, highest-more (accepted_packets es) p, s.held q)
          (same_first q (max v.next (highest es + 1 - v.channel.room)) (max v.next (max (highest es) p.number + 1 - v.channel.room)) (accepted_packets es) p least cause);
    }

by_closed : (es : List Event) (p : PacketContent) (v : View) (b : Bool) → v.is_closed ≡ b → (p.number < least_held v) ⊎ IsSome (get v.held p.number)
    → StandsAt es v → StandsAt (es ++ came p ∷ []) v
by_closed es p v true c why s = after_close_stands es (came p) v c s
by_closed es p v false c why s = back_stands es p v c why s

-- whatever a packet's answer but want of memory
pub receives_stands : (allocates : Bool) (es : List Event) (p : PacketContent) (old new : View) (r : Put PacketContent) → is_taken_in r ≡ true → Receives allocates p old new r
    → StandsAt es old → StandsAt (es ++ came p ∷ []) new
receives_stands allocates es p old new Kept t k s = held_stands es p old new k s
receives_stands allocates es p old new (Back back) t k s = rw k.1 (elim k.2 [
  | inl c ↦ after_close_stands es (came p) old c s
  | inr why ↦ by_closed es p old old.is_closed refl why s
])
receives_stands allocates es p old new (Memory back) t k s = cc

-- ---- snapshots

pub same_newest : (id : ℤ) (n : Option SnapshotContent) (s : SnapshotContent) (b : Bool) → int_eq id s.security ≡ b → (id ≡ s.security → is_newer n s ≡ false) → newer_of id n s ≡ n
same_newest id n s true e none = rw (e, none ((Decides-int_eq id s.security).0 e)) refl
same_newest id n s false e none = rw e refl

pub no_news : (ids : List ℤ) (s : SnapshotContent) (ns : List (Option SnapshotContent)) → IsNoNews ids ns s → newest_after ids s ns ≡ ns
no_news [] s ns none = refl
no_news (id ∷ ids) s [] none = refl
no_news (id ∷ ids) s (n ∷ ns) none =
    rw (same_newest id n s (int_eq id s.security) refl (λ e. none zero n (ap (λ (x : ℤ). Some x) e) refl), no_news ids s ns (λ slot. none (suc slot))) refl

renewed_by : (es : List Event) (snap : SnapshotContent) (v : View) (b : Bool) → v.is_closed ≡ b → (v.is_closed ≡ true) ⊎ IsNoNews v.channel.ids v.newest snap
    → StandsAt es v → StandsAt (es ++ recovered snap ∷ []) v
renewed_by es snap v true c why s = after_close_stands es (recovered snap) v c s
renewed_by es snap v false c why s =
    let opened : is_closed es ≡ false = rw (← s.is_closed) c in
    let same : newest_after v.channel.ids snap v.newest ≡ v.newest = elim why [ inl t ↦ absurd (let x : true ≡ false = cc in cc) | inr t ↦ no_news v.channel.ids snap v.newest t ] in
    record {
      room = s.room;
      begun = s.begun;
      first = s.first;
      most = s.most;
      top = rw (packets-recovered es snap) s.top;
      is_closed = rw (closed-recovered es snap) s.is_closed;
      newest = rw (newest_snapshots-newest_after v.channel.ids es snap opened, ← s.newest, same) refl;
      held = λ k. rw (packets-recovered es snap) (s.held k);
    }

-- whatever a snapshot's answer
pub renews_stands : (es : List Event) (snap : SnapshotContent) (old new : View) (r : Option SnapshotContent) → Renews snap old new r
    → StandsAt es old → StandsAt (es ++ recovered snap ∷ []) new
renews_stands es snap old new None k s =
    let opened : is_closed es ≡ false = rw (← s.is_closed) k.0 in
    rw k.2 (record {
      room = s.room;
      begun = s.begun;
      first = s.first;
      most = s.most;
      top = rw (packets-recovered es snap) s.top;
      is_closed = rw (closed-recovered es snap) s.is_closed;
      newest = rw (newest_snapshots-newest_after old.channel.ids es snap opened, s.newest) refl;
      held = λ k. rw (packets-recovered es snap) (s.held k);
    })
renews_stands es snap old new (Some back) k s = rw k.1 (renewed_by es snap old old.is_closed refl k.2 s)
