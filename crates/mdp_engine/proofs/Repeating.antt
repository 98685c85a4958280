-- A packet of a number that has passed, or was given up, changes nothing.
use Rattle.std.proofs.Common.{◌≡◌, ◌<◌, ◌+◌, ℕ, ℤ, List, [], ◌∷◌, ◌++◌, Bool, true, false, eqb, max, None, Option, refl, sym, ap, subst, ◌∙◌, append_assoc, arith, inl, inr}
use Rattle.std.specs.Prelude.{nat_le, not, ◌||◌, if◌then◌else◌}
use Rattle.std.specs.Option.{option_map}
use Rattle.std.proofs.lemmas.List.{append-nil}
use Rattle.std.proofs.lemmas.List.Sums.{fold-append}
use Rattle.std.proofs.lemmas.Bool.{cases_lt}
use Rattle.std.proofs.lemmas.Bool.Decides.{nat_tests}
use Rattle.mdp_templates.specs.Packet.{PacketContent}
use Rattle.mdp_templates.specs.Snapshot.{SnapshotContent}
use Rattle.mdp_templates.specs.declared.instrument.Instrument.{Instrument}
use Rattle.mdp_window.specs.declared.window.Put.TheVariants.{Back}
use Rattle.mdp_quotes.proofs.Prices.{true_or_false}
use Rattle.mdp_arbiter.specs.declared.start.Start.{Start}
use Rattle.mdp_arbiter.specs.declared.start.Start.TheVariants.{FromOne, Join}
use Rattle.mdp_arbiter.specs.Accepted.{Event, accepted_packets, first_of, highest, highest_of, is_closed, newest_snapshots}
use Rattle.mdp_arbiter.specs.Accepted.Event.{came}
use Rattle.mdp_arbiter.specs.Arbiter.{View as ArbiterView}
use Rattle.mdp_arbiter.specs.Channel.{Channel}
use Rattle.mdp_arbiter.specs.Machine.{Move, State, Settles, after, after_all, are_fresh, first_state, go_on, has_run_ahead, jump, next_move, settle, snapshots_of, state_at, trace}
use Rattle.mdp_arbiter.specs.Machine.Move.{passed}
use Rattle.mdp_arbiter.proofs.Appended.{closed-came, first-apart, highest-more, newest-same, packets-came, snapshots-came}
use Rattle.mdp_arbiter.proofs.Runs.{law_of_events, settle_settles}
use Rattle.mdp_arbiter.proofs.Standings.{receives_stands}
use Rattle.mdp_desks.specs.Moments.{Moment}
use Rattle.mdp_desks.specs.Shows.{Shows}
use Rattle.mdp_engine.specs.Engine.{View, IsSettled, Stands}

-- ---- once settled, no move is possible

settled_end : (channel : Channel) (es : List Event) (s : State) (ms : List Move) → Settles channel es s ms → next_move channel es (after_all s ms) ≡ None
settled_end channel es s [] none = none
settled_end channel es s (m ∷ ms) settles = settled_end channel es (after s m) ms settles.1

-- after all moves of these events none is possible
end_of :
    (channel : Channel) (past : List Event) (s : State) (e : Event) (es : List Event)
    → next_move channel (past ++ e ∷ es) (after_all s (go_on channel past s (e ∷ es))) ≡ None
end_of channel past s e [] =
    let ms = settle channel (past ++ e ∷ []) s in
    ap (λ xs. next_move channel (past ++ e ∷ []) (after_all s xs)) (append-nil ms) ∙ settled_end channel (past ++ e ∷ []) s ms (settle_settles channel (past ++ e ∷ []) s)
end_of channel past s e (f ∷ es) =
    let ms = settle channel (past ++ e ∷ []) s in
    let rest = go_on channel (past ++ e ∷ []) (after_all s ms) (f ∷ es) in
    ap (λ t. next_move channel (past ++ e ∷ f ∷ es) t) (fold-append after s ms rest)
    ∙ ap (λ xs. next_move channel xs (after_all (after_all s ms) rest)) (sym (append_assoc past (e ∷ []) (f ∷ es)))
    ∙ end_of channel (past ++ e ∷ []) (after_all s ms) f es

before_any : (room : ℕ) (ids : List ℤ) (start : Start) → let channel : Channel = record { room = room; ids = ids; start = start } in next_move channel [] (first_state channel) ≡ None
before_any room ids FromOne = let far : nat_le (1 + room) 0 ≡ false = grind (arith, nat_tests) in rw far refl
before_any room [] Join = refl
before_any room (id ∷ ids) Join = refl

no_more : (channel : Channel) (es : List Event) → next_move channel es (state_at channel es) ≡ None
no_more channel [] = before_any channel.room channel.ids channel.start
no_more channel (e ∷ es) = end_of channel [] (first_state channel) e es

-- ---- an old packet leaves what is possible

-- the possible move by what it turns on
abbrev move_by : Channel → State → Bool → ℕ → List (Option SnapshotContent) → Option PacketContent → Option Move
move_by channel s shut top newest first =
    if shut then None
    else if not s.joined || has_run_ahead channel.room s.next top then
    (if are_fresh channel.room top newest then jump s.next (snapshots_of newest) else None)
    else option_map passed first

joined_ahead :
    (channel : Channel) (s : State) (top n : ℕ) (newest : List (Option SnapshotContent)) (first : Option PacketContent)
    → s.joined ≡ true → n < s.next → top < n → move_by channel s false (max top n) newest first ≡ move_by channel s false top newest first
joined_ahead channel s top n newest first joined old above =
    let new : nat_le (s.next + channel.room) (max top n) ≡ false = grind (arith, nat_tests) in
    let before : nat_le (s.next + channel.room) top ≡ false = grind (arith, nat_tests) in
    rw (joined, new, before) refl

same_top :
    (channel : Channel) (s : State) (top n : ℕ) (newest : List (Option SnapshotContent)) (first : Option PacketContent)
    → n < s.next → (s.joined ≡ false → s.next ≡ 1) → move_by channel s false (max top n) newest first ≡ move_by channel s false top newest first
same_top channel s top n newest first old begun = elim (cases_lt top n) [
  | inl above ↦ elim (true_or_false s.joined) [
    | inl joined ↦ joined_ahead channel s top n newest first joined old above
    | inr apart ↦ absurd (omega (arith, begun apart, above, old))
  ]
  | inr below ↦ let same : max top n ≡ top = omega (arith, below) in ap (λ t. move_by channel s false t newest first) same
]

open_move :
    (channel : Channel) (es : List Event) (s : State) (p : PacketContent) → is_closed es ≡ false → p.number < s.next → (s.joined ≡ false → s.next ≡ 1)
    → next_move channel (es ++ came p ∷ []) s ≡ next_move channel es s
open_move channel es s p still old begun =
    let all = packets-came es p still in
    let apart : eqb s.next p.number ≡ false = grind (arith, nat_tests) in
    let newest = newest-same channel.ids es (es ++ came p ∷ []) (snapshots-came es p) in
    let top : highest (es ++ came p ∷ []) ≡ max (highest es) p.number = ap highest_of all ∙ highest-more (accepted_packets es) p in
    let first : first_of s.next (accepted_packets (es ++ came p ∷ [])) ≡ first_of s.next (accepted_packets es) =
    ap (first_of s.next) all ∙ first-apart s.next (accepted_packets es) p apart in
    let shut : is_closed (es ++ came p ∷ []) ≡ false = closed-came es p ∙ still in
    ap (λ b. move_by channel s b (highest (es ++ came p ∷ [])) (newest_snapshots channel.ids (es ++ came p ∷ [])) (first_of s.next (accepted_packets (es ++ came p ∷ [])))) shut
    ∙ ap (λ t. move_by channel s false t (newest_snapshots channel.ids (es ++ came p ∷ [])) (first_of s.next (accepted_packets (es ++ came p ∷ [])))) top
    ∙ ap (λ ns. move_by channel s false (max (highest es) p.number) ns (first_of s.next (accepted_packets (es ++ came p ∷ [])))) newest
    ∙ ap (λ f. move_by channel s false (max (highest es) p.number) (newest_snapshots channel.ids es) f) first
    ∙ same_top channel s (highest es) p.number (newest_snapshots channel.ids es) (first_of s.next (accepted_packets es)) old begun
    ∙ ap (λ b. move_by channel s b (highest es) (newest_snapshots channel.ids es) (first_of s.next (accepted_packets es))) (sym still)

same_move :
    (channel : Channel) (es : List Event) (s : State) (p : PacketContent) → p.number < s.next → (s.joined ≡ false → s.next ≡ 1)
    → next_move channel es s ≡ None → next_move channel (es ++ came p ∷ []) s ≡ None
same_move channel es s p old begun none = elim (true_or_false (is_closed es)) [
  | inl shut ↦ let both : is_closed (es ++ came p ∷ []) ≡ true = closed-came es p ∙ shut in rw both refl
  | inr still ↦ open_move channel es s p still old begun ∙ none
]

-- ---- an engine that stands, stands after an old packet too

record AddsNothing (listed : List Instrument) (es : List Event) (p : PacketContent) (v : ArbiterView) : Type 0 where
  settled : IsSettled listed (es ++ came p ∷ []) v
  moves : trace v.channel (es ++ came p ∷ []) ≡ trace v.channel es

adds_nothing : (listed : List Instrument) (es : List Event) (p : PacketContent) (v : ArbiterView) → IsSettled listed es v → p.number < v.next → AddsNothing listed es p v
adds_nothing listed es p v is old =
    let next : (state_at v.channel es).next ≡ v.next = ap (λ (s : State). s.next) (sym is.state) in
    let joined : (state_at v.channel es).joined ≡ v.joined = ap (λ (s : State). s.joined) (sym is.state) in
    let below : p.number < (state_at v.channel es).next = omega (arith, next, old) in
    let begun : (state_at v.channel es).joined ≡ false → (state_at v.channel es).next ≡ 1 = λ apart. next ∙ is.stands.first (sym joined ∙ apart) in
    let none = same_move v.channel es (state_at v.channel es) p below begun (no_more v.channel es) in
    let more = law_of_events v.channel es (came p) [] none in
    record {
      settled = record {
        stands = receives_stands false es p v v (Back p) refl (refl, refl, inr (inl (omega (arith, old)))) is.stands;
        ids = is.ids;
        state = is.state ∙ sym more.1;
      };
      moves = more.0 ∙ append-nil (trace v.channel es);
    }

pub old_stands : (listed : List Instrument) (es : List Event) (gone : List Moment) (p : PacketContent) (v : View) → p.number < v.arbiter.next → Stands listed es gone v → Stands listed (es ++ came p ∷ []) gone v
old_stands listed es gone p v old is =
    let more = adds_nothing listed es p v.arbiter is.settled old in
    record { settled = more.settled; others = is.others; shows = subst (λ (ms : List Move). Shows listed ms v.desks (gone ++ is.others)) (sym more.moves) is.shows; holds = is.holds }
