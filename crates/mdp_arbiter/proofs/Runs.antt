-- Whole runs of the machine.
use Rattle.std.proofs.Common.{◌≡◌, ℕ, suc, zero, ◌+◌, ◌≤◌, ◌<◌, ◌⊎◌, Bool, true, false, cond, List, [], ◌∷◌, ◌++◌, refl, arith, append_assoc, inl, inr, sym}
use Rattle.std.specs.Prelude.{min, fold, Option, None, Some, leb, not, ◌&&◌, ◌||◌, is_some}
use Rattle.std.specs.Option.{option_map}
use Rattle.std.proofs.lemmas.Bool.{leb-true}
use Rattle.std.proofs.lemmas.Bool.Decides.{eqb_tells}
use Rattle.std.proofs.lemmas.List.{append-nil}
use Rattle.std.proofs.lemmas.List.Sums.{fold-append}
use Rattle.mdp_templates.specs.Packet.{PacketContent}
use Rattle.mdp_templates.specs.Snapshot.{SnapshotContent}
use Rattle.mdp_arbiter.specs.Channel.{Channel}
use Rattle.mdp_arbiter.specs.Accepted.{Event, is_closed, accepted_packets, highest, first_of, newest_snapshots}
use Rattle.mdp_arbiter.specs.Machine.{Move, passed, jumped, State, first_state, is_lost, are_fresh, snapshots_of, lesser, least_last, jump, next_move, after, after_all, moves, settle, go_on, trace, state_at, Settles, LawOfFronts, LawOfMoves, LawOfEvents, LawOfPasses}
use Rattle.mdp_arbiter.proofs.Appended.{first-within}

-- ---- a jump

pub both : (a b : Bool) → a && b ≡ true → (a ≡ true) × (b ≡ true)
both true b h = (refl, h)
both false b h = cc

fresh_from : (room top n least : ℕ) (newest : List (Option SnapshotContent)) → top ≤ n + room → are_fresh room top newest ≡ true → fold lesser (Some n) (snapshots_of newest) ≡ Some least
    → top ≤ least + room
fresh_from room top n least [] below fresh is = let same : n ≡ least = cc in omega (arith, same)
fresh_from room top n least (None ∷ newest) below fresh is = cc
fresh_from room top n least (Some s ∷ newest) below fresh is =
    let all = both (leb top (s.last + room)) (are_fresh room top newest) fresh in
    let here : top ≤ s.last + room = leb-true _ _ all.0 in
    fresh_from room top (min n s.last) least newest (omega (arith, below, here)) all.1 is

-- where each snapshot is fresh, the least is
pub fresh_least : (room top least : ℕ) (newest : List (Option SnapshotContent)) → are_fresh room top newest ≡ true → least_last (snapshots_of newest) ≡ Some least → top ≤ least + room
fresh_least room top least [] fresh is = cc
fresh_least room top least (None ∷ newest) fresh is = cc
fresh_least room top least (Some s ∷ newest) fresh is =
    let all = both (leb top (s.last + room)) (are_fresh room top newest) fresh in
    fresh_from room top s.last least newest (leb-true _ _ all.0) all.1 is

-- ---- fronts

go_on-front : (channel : Channel) (xs past : List Event) (s : State) (ys : List Event)
    → go_on channel past s (xs ++ ys) ≡ go_on channel past s xs ++ go_on channel (past ++ xs) (after_all s (go_on channel past s xs)) ys
go_on-front channel [] past s ys = rw (append-nil past) refl
go_on-front channel (x ∷ xs) past s ys =
    rw (
      go_on-front channel xs (past ++ x ∷ []) (after_all s (settle channel (past ++ x ∷ []) s)) ys,
      fold-append after s (settle channel (past ++ x ∷ []) s) (go_on channel (past ++ x ∷ []) (after_all s (settle channel (past ++ x ∷ []) s)) xs),
    )
    (simp append_assoc)

pub law_of_fronts : LawOfFronts
law_of_fronts channel xs ys = go_on-front channel xs [] (first_state channel) ys

-- ---- moves

-- how a move came about
pub move_is : (is_closed lost fresh : Bool) (first : Option PacketContent) (j : Option Move) (m : Move)
    → cond is_closed None (cond lost (cond fresh j None) (option_map passed first)) ≡ Some m
    → ((lost ≡ true) × (fresh ≡ true) × (j ≡ Some m)) ⊎ ((p : PacketContent) × (first ≡ Some p) × (m ≡ passed p) × (lost ≡ false))
move_is true lost fresh first j m e = cc
move_is false true true first j m e = inl (refl, refl, e)
move_is false true false first j m e = cc
move_is false false fresh None j m e = cc
move_is false false fresh (Some p) j m e = inr (p, refl, cc, refl)

pub jump_is : (next : ℕ) (snapshots : List SnapshotContent) (least : Option ℕ) (m : Move) → option_map (λ least. jumped next (least + 1) snapshots) least ≡ Some m
    → (n : ℕ) × (least ≡ Some n) × (m ≡ jumped next (n + 1) snapshots)
jump_is next snapshots None m e = cc
jump_is next snapshots (Some n) m e = (n, refl, cc)

-- who has joined and is lost is run ahead of
pub run_ahead : (joined : Bool) (n top : ℕ) → joined ≡ true → not joined || leb n top ≡ true → n ≤ top
run_ahead true n top has lost = leb-true _ _ lost
run_ahead false n top has lost = cc

-- who is not lost has joined
pub not_lost : (joined ahead : Bool) → not joined || ahead ≡ false → (joined ≡ true) × (ahead ≡ false)
not_lost true ahead e = (refl, e)
not_lost false ahead e = cc

-- a packet that passes is the first of the next number
pub passes_first : (channel : Channel) (es : List Event) (s : State) (p : PacketContent) → next_move channel es s ≡ Some (passed p) → first_of s.next (accepted_packets es) ≡ Some p
passes_first channel es s p e = elim (move_is (is_closed es) (is_lost channel es s) (are_fresh channel.room (highest es) (newest_snapshots channel.ids es)) (first_of s.next (accepted_packets es)) (jump s.next (snapshots_of (newest_snapshots channel.ids es))) (passed p) e) [
  | inl t ↦ let by = jump_is s.next (snapshots_of (newest_snapshots channel.ids es)) (least_last (snapshots_of (newest_snapshots channel.ids es))) (passed p) t.2 in
      let apart : passed p ≡ jumped s.next (by.0 + 1) (snapshots_of (newest_snapshots channel.ids es)) = by.2 in
      absurd cc
  | inr t ↦ let same : p ≡ t.0 = let e : passed p ≡ passed t.0 = t.2 in cc in rw same t.1
]

number_of_first : (n : ℕ) (ps : List PacketContent) (p : PacketContent) → first_of n ps ≡ Some p → p.number ≡ n
number_of_first n [] p is = cc
number_of_first n (q ∷ ps) p is = elim (eqb_tells n q.number) [
  | inl e ↦ let same : q ≡ p = let some : first_of n (q ∷ ps) ≡ Some q = rw e.0 refl in cc in rw (← same) (sym e.1)
  | inr e ↦ number_of_first n ps p (rw e.0 at is)
]

pub law_of_passes : LawOfPasses
law_of_passes channel es s packet is =
    let first = passes_first channel es s packet is in
    (number_of_first s.next (accepted_packets es) packet first, first)

-- After a move packets may pass. Where they might before, it is possible only up to the highest number, and raises the next.
moved : (channel : Channel) (es : List Event) (s : State) (m : Move) → next_move channel es s ≡ Some m
    → ((after s m).joined ≡ true) × (1 ≤ (after s m).next) × (s.joined ≡ true → (s.next ≤ highest es) × (s.next < (after s m).next))
moved channel es s m e = elim (move_is (is_closed es) (is_lost channel es s) (are_fresh channel.room (highest es) (newest_snapshots channel.ids es)) (first_of s.next (accepted_packets es)) (jump s.next (snapshots_of (newest_snapshots channel.ids es))) m e) [
  | inl t ↦
      let by = jump_is s.next (snapshots_of (newest_snapshots channel.ids es)) (least_last (snapshots_of (newest_snapshots channel.ids es))) m t.2 in
      let least : highest es ≤ by.0 + channel.room = fresh_least channel.room (highest es) by.0 (newest_snapshots channel.ids es) t.1 by.1 in
      rw by.2 (
        refl,
        omega arith,
        λ has.
            let lost : s.next + channel.room ≤ highest es = run_ahead s.joined (s.next + channel.room) (highest es) has t.0 in
            (omega (arith, lost), omega (arith, lost, least)),
      )
  | inr t ↦
      let some : is_some (first_of s.next (accepted_packets es)) ≡ true = rw t.1 refl in
      rw t.2 ((not_lost s.joined _ t.3).0, omega arith, λ has. (first-within s.next (accepted_packets es) some, omega arith))
]

no_move : (channel : Channel) (es : List Event) (s : State) (x : Option Move) → s.joined ≡ true → highest es < s.next → next_move channel es s ≡ x → next_move channel es s ≡ None
no_move channel es s None has past e = e
no_move channel es s (Some m) has past e = absurd (omega (arith, past, ((moved channel es s m e).2 has).0))

-- so many moves are enough
abbrev Enough : ℕ → List Event → State → Type 0
Enough most es s = ((s.joined ≡ true) × (highest es + 1 ≤ most + s.next)) ⊎ (highest es + 1 ≤ most)

first_move : (most : ℕ) (channel : Channel) (es : List Event) (s : State) (x : Option Move) → Enough (suc most) es s
    → ((t : State) → Enough most es t → Settles channel es t (moves most channel es t)) → next_move channel es s ≡ x
    → Settles channel es s (elim x [ None ↦ [] | Some m ↦ m ∷ moves most channel es (after s m) ])
first_move most channel es s None enough later e = e
first_move most channel es s (Some m) enough later e =
    let by = moved channel es s m e in
    let left : highest es + 1 ≤ most + (after s m).next = elim enough [ inl t ↦ omega (arith, t.1, (by.2 t.0).1) | inr t ↦ omega (arith, t, by.1) ] in
    (e, later (after s m) (inl (by.0, left)))

settled : (most : ℕ) (channel : Channel) (es : List Event) (s : State) → Enough most es s → Settles channel es s (moves most channel es s)
settled zero channel es s enough = elim enough [
  | inl t ↦ no_move channel es s (next_move channel es s) t.0 (omega (arith, t.1)) refl
  | inr t ↦ absurd (omega (arith, t))
]
settled (suc most) channel es s enough = first_move most channel es s (next_move channel es s) enough (λ t. settled most channel es t) refl

only : (channel : Channel) (es : List Event) (xs ys : List Move) (s : State) → Settles channel es s xs → Settles channel es s ys → xs ≡ ys
only channel es [] [] s a b = refl
only channel es [] (y ∷ ys) s a b = cc
only channel es (x ∷ xs) [] s a b = cc
only channel es (x ∷ xs) (y ∷ ys) s a b =
    let e : x ≡ y = cc in
    let rest : Settles channel es (after s x) ys = rw e b.1 in
    rw (e, only channel es xs ys (after s x) a.1 rest) refl

pub settle_settles : (channel : Channel) (es : List Event) (s : State) → Settles channel es s (settle channel es s)
settle_settles channel es s = settled (highest es + 1) channel es s (inr (omega arith))

pub law_of_moves : LawOfMoves
law_of_moves channel es s = (settle_settles channel es s, λ ms is. only channel es ms (settle channel es s) s is (settle_settles channel es s))

-- ---- one more event

trace-more : (channel : Channel) (es : List Event) (e : Event) → trace channel (es ++ e ∷ []) ≡ trace channel es ++ settle channel (es ++ e ∷ []) (state_at channel es)
trace-more channel es e = rw (law_of_fronts channel es (e ∷ []), append-nil (settle channel (es ++ e ∷ []) (state_at channel es))) refl

pub law_of_events : LawOfEvents
law_of_events channel es e ms is =
    let all : ms ≡ settle channel (es ++ e ∷ []) (state_at channel es) = (law_of_moves channel (es ++ e ∷ []) (state_at channel es)).1 ms is in
    let grown : trace channel (es ++ e ∷ []) ≡ trace channel es ++ ms = rw all (trace-more channel es e) in
    (grown, rw (grown, fold-append after (first_state channel) (trace channel es) ms) refl)
