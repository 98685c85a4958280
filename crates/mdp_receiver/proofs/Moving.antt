-- What a datagram moved, as a handler tells it by what it holds before and after.
use Rattle.std.proofs.Common.{◌≡◌, ℕ, ◌+◌, ◌≤◌, Bool, true, false, cond, List, [], ◌∷◌, ◌++◌, map, refl, sym, ap, subst, ◌∙◌, append_assoc, inl, inr, arith}
use Rattle.std.specs.Prelude.{leb, max, not, ◌&&◌, ◌||◌, is_some, Option, Some, None}
use Rattle.std.proofs.lemmas.Bool.{leb-true, le-leb, lt-leb}
use Rattle.std.proofs.lemmas.Bool.Decides.{leb_tells}
use Rattle.std.proofs.lemmas.List.{append-nil}
use Rattle.std.proofs.lemmas.List.Sums.{fold-append}
use Rattle.mdp_templates.specs.Incremental.{IsPacket}
use Rattle.mdp_templates.specs.Packet.{PacketContent}
use Rattle.mdp_templates.specs.Refused.{FeedKind as Kind}
use Rattle.mdp_templates.specs.Refused.FeedKind.{incremental, recovery}
use Rattle.mdp_templates.specs.Snapshot.{SnapshotContent}
use Rattle.mdp_arbiter.specs.Accepted.{Event, accepted_packets, came, highest, highest_of, is_closed, recovered}
use Rattle.mdp_arbiter.specs.Arbiter.{View as ArbiterView, is_lost_now, state}
use Rattle.mdp_arbiter.specs.Channel.{Channel}
use Rattle.mdp_arbiter.specs.Fates.{packet_fate}
use Rattle.mdp_arbiter.specs.Machine.{HaveNoJump, Move, Settles, State, after, after_all, first_state, go_on, is_lost, jumped, least_last, passed, settle, snapshots_of, state_at, trace}
use Rattle.mdp_arbiter.specs.declared.arbiter.Standing.{Standing}
use Rattle.mdp_arbiter.specs.declared.fate.PacketFate.{PacketFate}
use Rattle.mdp_arbiter.specs.declared.fate.PacketFate.TheVariants as fates
use Rattle.mdp_arbiter.proofs.Appended.{highest-more, packets-after_close, packets-came}
use Rattle.mdp_arbiter.proofs.Jumping.{jump_or_none, lost-recovered, lost_at, pass_on}
use Rattle.mdp_arbiter.proofs.Runs.{law_of_fronts, settle_settles}
use Rattle.mdp_engine.specs.Engine.{View}
use Rattle.mdp_receiver.specs.Handling.{TakesSaid, TellsMoved}
use Rattle.mdp_receiver.specs.Moved.{MovesAs, came_while_open, jump_told, jumps_in, loss_of, loss_told, moved_told, one_jump}
use Rattle.mdp_receiver.specs.Said.{IsSaid, Said, brings, brought_by, refused}
use Rattle.mdp_receiver.specs.Taken.{taken_by, taken_of}
use Rattle.mdp_receiver.specs.declared.moved.Jump.{Jump}
use Rattle.mdp_receiver.specs.declared.moved.Loss.{Loss}
use Rattle.mdp_receiver.specs.declared.taken.Taken.{Taken}
use Rattle.mdp_receiver.specs.declared.taken.Taken.TheVariants.{Packet, Refused}

-- ---- jumps among moves

none_in : (ms : List Move) → HaveNoJump ms → jumps_in ms ≡ []
none_in [] none = refl
none_in (passed p ∷ ms) none = none_in ms none
none_in (jumped old new snapshots ∷ ms) none = absurd none

jumps-append : (xs ys : List Move) → jumps_in (xs ++ ys) ≡ jumps_in xs ++ jumps_in ys
jumps-append [] ys = refl
jumps-append (passed p ∷ xs) ys = jumps-append xs ys
jumps-append (jumped old new snapshots ∷ xs) ys = ap (λ (js : List Jump). (record { old = old; new = new }) ∷ js) (jumps-append xs ys)

later_jumps : (xs ys : List Move) → jumps_in xs ≡ [] → jumps_in (xs ++ ys) ≡ jumps_in ys
later_jumps xs ys none = jumps-append xs ys ∙ ap (λ (js : List Jump). js ++ jumps_in ys) none

earlier_jumps : (xs ys : List Move) → jumps_in ys ≡ [] → jumps_in (xs ++ ys) ≡ jumps_in xs
earlier_jumps xs ys none = jumps-append xs ys ∙ ap (λ (js : List Jump). jumps_in xs ++ js) none ∙ append-nil (jumps_in xs)

-- From one state to another these moves were made. Among them is the one jump that is told by whether the receiver was lost before and after, or none. Where it was not, none jumps; where it stays so, the next number stays.
record Tells (lost still : Bool) (s t : State) (ms : List Move) : Type 0 where
  tells : jumps_in ms ≡ one_jump (jump_told lost still s.next (least_last (snapshots_of t.bases)))
  found : lost ≡ false → (still ≡ false) × (t.bases ≡ s.bases)
  stays : lost ≡ true → still ≡ true → t.next ≡ s.next

tells_none : (lost : Bool) (s : State) → Tells lost lost s s []
tells_none true s = record { tells = refl; found = λ e. cc; stays = λ e f. refl }
tells_none false s = record { tells = refl; found = λ e. (refl, refl); stays = λ e f. refl }

tells_more : (a b c : Bool) (s t u : State) (xs ys : List Move) → Tells a b s t xs → Tells b c t u ys → Tells a c s u (xs ++ ys)
tells_more false true c s t u xs ys one two = absurd (let e : true ≡ false = (one.found refl).0 in cc)
tells_more false false true s t u xs ys one two = absurd (let e : true ≡ false = (two.found refl).0 in cc)
tells_more false false false s t u xs ys one two = record {
  tells = later_jumps xs ys one.tells ∙ two.tells;
  found = λ e. (refl, (two.found refl).1 ∙ (one.found refl).1);
  stays = λ e f. cc;
}
tells_more true true c s t u xs ys one two = record {
  tells = later_jumps xs ys one.tells ∙ two.tells ∙ ap (λ (n : ℕ). one_jump (jump_told true c n (least_last (snapshots_of u.bases)))) (one.stays refl refl);
  found = λ e. cc;
  stays = λ e f. two.stays refl f ∙ one.stays refl refl;
}
tells_more true false true s t u xs ys one two = absurd (let e : true ≡ false = (two.found refl).0 in cc)
tells_more true false false s t u xs ys one two = record {
  tells = earlier_jumps xs ys two.tells ∙ one.tells
      ∙ ap (λ bases. one_jump (jump_told true false s.next (least_last (snapshots_of bases)))) (sym (two.found refl).1);
  found = λ e. cc;
  stays = λ e f. cc;
}

-- ---- after one event

settled_by : (channel : Channel) (es : List Event) (ms : List Move) (s : State) (lost : Bool) → is_lost channel es s ≡ lost → Settles channel es s ms → Tells lost (is_lost channel es (after_all s ms)) s (after_all s ms) ms
settled_by channel es ms s false e is =
    let on = pass_on channel es ms s is e in
    subst (λ (b : Bool). Tells false b s (after_all s ms) ms) (sym on.found) (record { tells = none_in ms on.none; found = λ e. (refl, on.bases); stays = λ e f. cc })
settled_by channel es ms s true e is = elim (jump_or_none channel es ms s is e) [
  | inl none ↦ subst (λ (xs : List Move). Tells true (is_lost channel es (after_all s xs)) s (after_all s xs) xs) (sym none)
      (subst (λ (b : Bool). Tells true b s s []) (sym e) (tells_none true s))
  | inr j ↦
      let told : one_jump (jump_told true false s.next (least_last (snapshots_of (after_all s ms).bases))) ≡ (record { old = s.next; new = j.least + 1 }) ∷ [] =
      ap (λ (least : Option ℕ). one_jump (jump_told true false s.next least)) j.least_is in
      let first : jumps_in ms ≡ (record { old = s.next; new = j.least + 1 }) ∷ [] =
      ap jumps_in j.is ∙ ap (λ (js : List Jump). (record { old = s.next; new = j.least + 1 }) ∷ js) (none_in j.later j.none) in
      subst (λ (b : Bool). Tells true b s (after_all s ms) ms) (sym j.found) (record { tells = first ∙ sym told; found = λ e. cc; stays = λ e f. cc })
]

settled_tells : (channel : Channel) (es : List Event) (ms : List Move) (s : State) → Settles channel es s ms → Tells (is_lost channel es s) (is_lost channel es (after_all s ms)) s (after_all s ms) ms
settled_tells channel es ms s is = settled_by channel es ms s (is_lost channel es s) refl is

-- ---- after all events of a datagram

-- the moves that these further events add
abbrev TellsOn : Channel → List Event → State → List Event → Type 0
TellsOn channel es s further =
    Tells (is_lost channel (es ++ further) s) (is_lost channel (es ++ further) (after_all s (go_on channel es s further))) s (after_all s (go_on channel es s further)) (go_on channel es s further)

packet_tells : (channel : Channel) (es : List Event) (s : State) (p : PacketContent) → TellsOn channel es s (came p ∷ [])
packet_tells channel es s p =
    let now = es ++ came p ∷ [] in
    let ms = settle channel now s in
    subst (λ (xs : List Move). Tells (is_lost channel now s) (is_lost channel now (after_all s xs)) s (after_all s xs) xs) (sym (append-nil ms))
    (settled_tells channel now ms s (settle_settles channel now s))

lost-snapshots : (channel : Channel) (ss : List SnapshotContent) (es : List Event) (s : State) → is_lost channel (es ++ map recovered ss) s ≡ is_lost channel es s
lost-snapshots channel [] es s = ap (λ (xs : List Event). is_lost channel xs s) (append-nil es)
lost-snapshots channel (x ∷ ss) es s =
    ap (λ (xs : List Event). is_lost channel xs s) (sym (append_assoc es (recovered x ∷ []) (map recovered ss)))
    ∙ lost-snapshots channel ss (es ++ recovered x ∷ []) s ∙ lost-recovered channel es x s

snapshots_tell : (channel : Channel) (ss : List SnapshotContent) (es : List Event) (s : State) → TellsOn channel es s (map recovered ss)
snapshots_tell channel [] es s = tells_none (is_lost channel (es ++ []) s) s
snapshots_tell channel (x ∷ ss) es s =
    let now = es ++ recovered x ∷ [] in
    let all = es ++ recovered x ∷ map recovered ss in
    let ms = settle channel now s in
    let mid = after_all s ms in
    let later = go_on channel now mid (map recovered ss) in
    let end = after_all mid later in
    let same : now ++ map recovered ss ≡ all = append_assoc es (recovered x ∷ []) (map recovered ss) in
    let before : is_lost channel now s ≡ is_lost channel all s = lost-recovered channel es x s ∙ sym (lost-snapshots channel (x ∷ ss) es s) in
    let between : is_lost channel (now ++ map recovered ss) mid ≡ is_lost channel now mid = lost-snapshots channel ss now mid in
    let one : Tells (is_lost channel all s) (is_lost channel now mid) s mid ms =
    subst (λ (b : Bool). Tells b (is_lost channel now mid) s mid ms) before (settled_tells channel now ms s (settle_settles channel now s)) in
    let two : Tells (is_lost channel now mid) (is_lost channel (now ++ map recovered ss) end) mid end later =
    subst (λ (b : Bool). Tells b (is_lost channel (now ++ map recovered ss) end) mid end later) between (snapshots_tell channel ss now mid) in
    let both : Tells (is_lost channel all s) (is_lost channel (now ++ map recovered ss) end) s end (ms ++ later) =
    tells_more _ _ _ s mid end ms later one two in
    let here : Tells (is_lost channel all s) (is_lost channel all end) s end (ms ++ later) =
    subst (λ (xs : List Event). Tells (is_lost channel all s) (is_lost channel xs end) s end (ms ++ later)) same both in
    subst (λ (t : State). Tells (is_lost channel all s) (is_lost channel all t) s t (ms ++ later)) (sym (fold-append after s ms later)) here

-- ---- a loss

-- a packet that comes while the channel is open
loss_open : (joined : Bool) (n r h p top : ℕ) → top ≡ max h p
    → cond (not (not joined || leb (n + r) h) && (true && leb (n + r) p)) (let l : Option Loss = Some (record { next = n; highest = p }) in l) None
    ≡ cond (not (not joined || leb (n + r) h) && (not joined || leb (n + r) top)) (Some (record { next = n; highest = top })) None
loss_open false n r h p top is = refl
loss_open true n r h p top is = elim (leb_tells (n + r) h) [
  | inl t ↦ rw t.0 refl
  | inr t ↦ elim (leb_tells (n + r) p) [
    | inl u ↦ let same : top ≡ p = omega (arith, is, t.1, u.1) in rw (same, t.0, u.0) refl
    | inr u ↦ let under : leb (n + r) top ≡ false = lt-leb _ _ (omega (arith, is, t.1, u.1)) in rw (t.0, u.0, under) refl
  ]
]

-- whatever else comes
loss_none : (lost in_time far : Bool) (x y : Option Loss) → in_time ≡ false → cond (not lost && (in_time && far)) x None ≡ cond (not lost && lost) y None
loss_none true in_time far x y e = refl
loss_none false true far x y e = cc
loss_none false false far x y e = refl

lost_grows : (joined : Bool) (n h top : ℕ) → h ≤ top → not joined || leb n h ≡ true → not joined || leb n top ≡ true
lost_grows false n h top on lost = refl
lost_grows true n h top on lost = let far : n ≤ h = leb-true _ _ lost in le-leb _ _ (omega (arith, far, on))

time_of : (shut past late repeat : Bool) → came_while_open (Packet (cond shut fates.AfterClose (cond past fates.Past (cond late fates.Late (cond repeat fates.Repeat fates.First))))) ≡ not shut
time_of true past late repeat = refl
time_of false true late repeat = refl
time_of false false true repeat = refl
time_of false false false true = refl
time_of false false false false = refl

-- where the channel stands after these events
abbrev place : Channel → List Event → Standing
place channel es = record { next = (state_at channel es).next; lost = is_lost channel es (state_at channel es) }

-- Of these further events what is told is what they move.
record AreTold (channel : Channel) (es further : List Event) (taken : Taken) (number : ℕ) : Type 0 where
  loss : loss_told (place channel es) channel.room taken number ≡ loss_of channel es further
  grows : is_lost channel es (state_at channel es) ≡ true → is_lost channel (es ++ further) (state_at channel es) ≡ true
  jump : TellsOn channel es (state_at channel es) further

packet_by : (channel : Channel) (es : List Event) (p : PacketContent) (became : PacketFate) (shut : Bool) → is_closed es ≡ shut → came_while_open (Packet became) ≡ not shut
    → AreTold channel es (came p ∷ []) (Packet became) p.number
packet_by channel es p became true e time =
    let s = state_at channel es in
    let same : highest (es ++ came p ∷ []) ≡ highest es = ap highest_of (packets-after_close es (came p) e) in
    let lost : is_lost channel (es ++ came p ∷ []) s ≡ is_lost channel es s = ap (λ (top : ℕ). not s.joined || leb (s.next + channel.room) top) same in
    record {
      loss = loss_none (is_lost channel es s) (came_while_open (Packet became)) (leb (s.next + channel.room) p.number) _ (Some (record { next = s.next; highest = highest (es ++ came p ∷ []) })) time
          ∙ ap (λ (b : Bool). cond (not (is_lost channel es s) && b) (let l : Option Loss = Some (record { next = s.next; highest = highest (es ++ came p ∷ []) }) in l) None) (sym lost);
      grows = λ was. lost ∙ was;
      jump = packet_tells channel es s p;
    }
packet_by channel es p became false e time =
    let s = state_at channel es in
    let most : highest (es ++ came p ∷ []) ≡ max (highest es) p.number = ap highest_of (packets-came es p e) ∙ highest-more (accepted_packets es) p in
    record {
      loss = ap (λ (b : Bool). cond (not (is_lost channel es s) && (b && leb (s.next + channel.room) p.number)) (let l : Option Loss = Some (record { next = s.next; highest = p.number }) in l) None) time
          ∙ loss_open s.joined s.next channel.room (highest es) p.number (highest (es ++ came p ∷ [])) most;
      grows = lost_grows s.joined (s.next + channel.room) (highest es) (highest (es ++ came p ∷ [])) (omega (arith, most));
      jump = packet_tells channel es s p;
    }

packet_told : (channel : Channel) (es : List Event) (p : PacketContent) → AreTold channel es (came p ∷ []) (Packet (packet_fate channel es (state_at channel es) p.number)) p.number
packet_told channel es p = packet_by channel es p (packet_fate channel es (state_at channel es) p.number) (is_closed es) refl (time_of (is_closed es) _ _ _)

snapshots_told : (channel : Channel) (es : List Event) (ss : List SnapshotContent) (taken : Taken) (number : ℕ) → came_while_open taken ≡ false → AreTold channel es (map recovered ss) taken number
snapshots_told channel es ss taken number time =
    let s = state_at channel es in
    let lost : is_lost channel (es ++ map recovered ss) s ≡ is_lost channel es s = lost-snapshots channel ss es s in
    record {
      loss = loss_none (is_lost channel es s) (came_while_open taken) (leb (s.next + channel.room) number) _ (Some (record { next = s.next; highest = highest (es ++ map recovered ss) })) time
          ∙ ap (λ (b : Bool). cond (not (is_lost channel es s) && b) (let l : Option Loss = Some (record { next = s.next; highest = highest (es ++ map recovered ss) }) in l) None) (sym lost);
      grows = λ was. lost ∙ was;
      jump = snapshots_tell channel ss es s;
    }

taken_late : (channel : Channel) (es : List Event) (ss : List SnapshotContent) → came_while_open (taken_by channel es (map recovered ss)) ≡ false
taken_late channel es [] = refl
taken_late channel es (s ∷ ss) = refl

-- whatever a datagram says
said_told : (kind : Kind) (bytes : List ℕ) (said : Said) (number : ℕ) → IsSaid kind bytes said → ((packet : PacketContent) → IsPacket bytes packet → number ≡ packet.number) → (channel : Channel) (es : List Event)
    → AreTold channel es (brought_by said) (taken_of channel es said) number
said_told incremental bytes (brings events) number (packet, is, e) of channel es =
    subst (λ (xs : List Event). AreTold channel es xs (taken_by channel es xs) number) (sym e)
    (subst (AreTold channel es (came packet ∷ []) (Packet (packet_fate channel es (state_at channel es) packet.number))) (sym (of packet is)) (packet_told channel es packet))
said_told recovery bytes (brings events) number (snapshots, are, e) of channel es =
    subst (λ (xs : List Event). AreTold channel es xs (taken_by channel es xs) number) (sym e)
    (snapshots_told channel es snapshots (taken_by channel es (map recovered snapshots)) number (taken_late channel es snapshots))
said_told incremental bytes (refused r) number is of channel es = snapshots_told channel es [] (Refused r) number refl
said_told recovery bytes (refused r) number is of channel es = snapshots_told channel es [] (Refused r) number refl

-- ---- all that is told

lost_between : (lost between : Bool) (l : Loss) → (lost ≡ true → between ≡ true) → lost || is_some (cond (not lost && between) (Some l) None) ≡ between
lost_between true true l grows = refl
lost_between true false l grows = sym (grows refl)
lost_between false true l grows = refl
lost_between false false l grows = refl

state-more : (channel : Channel) (es further : List Event) → state_at channel (es ++ further) ≡ after_all (state_at channel es) (go_on channel es (state_at channel es) further)
state-more channel es further =
    ap (after_all (first_state channel)) (law_of_fronts channel es further)
    ∙ fold-append after (first_state channel) (trace channel es) (go_on channel es (state_at channel es) further)

same_jump : (a b c d : Bool) (n : ℕ) (x y : Option ℕ) → a ≡ b → c ≡ d → x ≡ y → jump_told a c n x ≡ jump_told b d n y
same_jump a b c d n x y p q r = rw (p, q, r) refl

moves_by : (channel : Channel) (es further : List Event) (taken : Taken) (number : ℕ) (v : ArbiterView) → v.channel ≡ channel → state v ≡ state_at channel (es ++ further) → is_lost_now v ≡ is_lost channel (es ++ further) (state v)
    → AreTold channel es further taken number → MovesAs channel es further (moved_told (place channel es) taken number v)
moves_by channel es further taken number v same_channel state_is lost_is told =
    let s = state_at channel es in
    let t = after_all s (go_on channel es s further) in
    let reached : state v ≡ t = state_is ∙ state-more channel es further in
    let room : loss_told (place channel es) v.channel.room taken number ≡ loss_told (place channel es) channel.room taken number =
    ap (λ (c : Channel). loss_told (place channel es) c.room taken number) same_channel in
    let loss : loss_told (place channel es) v.channel.room taken number ≡ loss_of channel es further = room ∙ told.loss in
    let between : is_lost channel es s || is_some (loss_told (place channel es) v.channel.room taken number) ≡ is_lost channel (es ++ further) s =
    ap (λ (l : Option Loss). is_lost channel es s || is_some l) loss
    ∙ lost_between (is_lost channel es s) (is_lost channel (es ++ further) s) (record { next = s.next; highest = highest (es ++ further) }) told.grows in
    let still : is_lost_now v ≡ is_lost channel (es ++ further) t = lost_is ∙ ap (is_lost channel (es ++ further)) reached in
    let least : least_last (snapshots_of v.bases) ≡ least_last (snapshots_of t.bases) = ap (λ (x : State). least_last (snapshots_of x.bases)) reached in
    record { loss_is = loss; jump_is = ap one_jump (same_jump _ _ _ _ s.next _ _ between still least) ∙ sym told.jump.tells }

pub same_place : (a b : ℕ) (c d : Bool) → a ≡ b → c ≡ d → (let p : Standing = record { next = a; lost = c } in p) ≡ record { next = b; lost = d }
same_place a b c d p q = rw (p, q) refl

-- what a handler tells is what the datagram moved
pub has_moved : (kind : Kind) (bytes : List ℕ) (said : Said) (number : ℕ) (taken : Taken) (old new : View) → IsSaid kind bytes said → ((packet : PacketContent) → IsPacket bytes packet → number ≡ packet.number) → TakesSaid said taken old new
    → TellsMoved said (moved_told (record { next = old.arbiter.next; lost = is_lost_now old.arbiter }) taken number new.arbiter) old
has_moved kind bytes said number taken old new is of takes = λ listed es gone stands.
    let channel = old.arbiter.channel in
    let all = es ++ brought_by said in
    let later = takes.goes.stands listed es gone stands in
    let reached : state new.arbiter ≡ state_at channel all = later.settled.state ∙ ap (λ (c : Channel). state_at c all) takes.goes.channel in
    let lost : is_lost_now new.arbiter ≡ is_lost channel all (state new.arbiter) =
    lost_at all new.arbiter later.settled.stands ∙ ap (λ (c : Channel). is_lost c all (state new.arbiter)) takes.goes.channel in
    let begun : state old.arbiter ≡ state_at channel es = stands.settled.state in
    let at : (let p : Standing = record { next = old.arbiter.next; lost = is_lost_now old.arbiter } in p) ≡ place channel es =
    same_place _ _ _ _ (ap (λ (x : State). x.next) begun) (lost_at es old.arbiter stands.settled.stands ∙ ap (is_lost channel es) begun) in
    let told : AreTold channel es (brought_by said) taken number =
    subst (λ (x : Taken). AreTold channel es (brought_by said) x number) (sym (takes.taken_is listed es gone stands)) (said_told kind bytes said number is of channel es) in
    subst (MovesAs channel es (brought_by said)) (sym (ap (λ (p : Standing). moved_told p taken number new.arbiter) at))
    (moves_by channel es (brought_by said) taken number new.arbiter takes.goes.channel reached lost told)
