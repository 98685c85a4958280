-- Where nothing was lost, the first packets pass one after another.
use Rattle.std.proofs.Common.{◌≡◌, ℕ, Bool, true, false, cond, List, [], ◌∷◌, ◌++◌, refl, ap, sym, ◌∙◌, subst, append_assoc}
use Rattle.std.specs.Prelude.{Option, Some, None, is_some}
use Rattle.std.specs.Option.{option_map}
use Rattle.std.proofs.lemmas.List.{append-nil}
use Rattle.mdp_templates.specs.Packet.{PacketContent}
use Rattle.mdp_arbiter.specs.Channel.{Channel}
use Rattle.mdp_arbiter.specs.Accepted.{Event, came, recovered, closed, is_closed, accepted_packets, highest, first_of, newest_snapshots}
use Rattle.mdp_arbiter.specs.Machine.{Move, passed, jumped, State, first_state, is_lost, are_fresh, snapshots_of, jump, next_move, after, after_all, settle, go_on, Settles, ArePassed, HaveNoJump, IsNeverLost, LawOfNoLoss}
use Rattle.mdp_arbiter.proofs.Appended.{packets-after_close, packets-came, packets-recovered, packets-closed, closed-came, first-stays}
use Rattle.mdp_arbiter.proofs.Runs.{passes_first, settle_settles}

-- ---- first packets stay

stays_by : (k : ℕ) (es : List Event) (p : PacketContent) (b : Bool) → is_closed es ≡ b → is_some (first_of k (accepted_packets es)) ≡ true
    → first_of k (accepted_packets (es ++ came p ∷ [])) ≡ first_of k (accepted_packets es)
stays_by k es p true shut some = ap (first_of k) (packets-after_close es (came p) shut)
stays_by k es p false shut some = ap (first_of k) (packets-came es p shut) ∙ first-stays k (accepted_packets es) p some

stays_one : (k : ℕ) (es : List Event) (e : Event) → is_some (first_of k (accepted_packets es)) ≡ true → first_of k (accepted_packets (es ++ e ∷ [])) ≡ first_of k (accepted_packets es)
stays_one k es (came p) some = stays_by k es p (is_closed es) refl some
stays_one k es (recovered s) some = ap (first_of k) (packets-recovered es s)
stays_one k es closed some = ap (first_of k) (packets-closed es)

stays : (k : ℕ) (more es : List Event) → is_some (first_of k (accepted_packets es)) ≡ true → first_of k (accepted_packets (es ++ more)) ≡ first_of k (accepted_packets es)
stays k [] es some = ap (λ t. first_of k (accepted_packets t)) (append-nil es)
stays k (e ∷ more) es some =
    let one : first_of k (accepted_packets (es ++ e ∷ [])) ≡ first_of k (accepted_packets es) = stays_one k es e some in
    ap (λ t. first_of k (accepted_packets t)) (sym (append_assoc es (e ∷ []) more)) ∙ stays k more (es ++ e ∷ []) (rw one some) ∙ one

-- ---- moves without a jump

first_none : (first : Option PacketContent) → option_map passed first ≡ None → first ≡ None
first_none None e = refl
first_none (Some p) e = cc

-- where no move is possible and none is lost, the next packet isn't there
none_next : (shut lost fresh : Bool) (first : Option PacketContent) (j : Option Move) → shut ≡ false → lost ≡ false
    → cond shut None (cond lost (cond fresh j None) (option_map passed first)) ≡ None → first ≡ None
none_next true lost fresh first j s l e = cc
none_next false true fresh first j s l e = cc
none_next false false fresh first j s l e = first_none first e

-- the moves that settle, where none is a jump and the receiver isn't lost in the end
passes : (channel : Channel) (es : List Event) (ms : List Move) (s : State) → Settles channel es s ms → HaveNoJump ms → is_closed es ≡ false → is_lost channel es (after_all s ms) ≡ false
    → ArePassed s.next (accepted_packets es) ms × (first_of (after_all s ms).next (accepted_packets es) ≡ None)
passes channel es [] s is none shut lost =
    let absent = none_next (is_closed es) (is_lost channel es s) (are_fresh channel.room (highest es) (newest_snapshots channel.ids es)) (first_of s.next (accepted_packets es)) (jump s.next (snapshots_of (newest_snapshots channel.ids es))) shut lost is in
    (absent, absent)
passes channel es (passed p ∷ ms) s is none shut lost =
    let rest = passes channel es ms (after s (passed p)) is.1 none shut lost in
    ((passes_first channel es s p is.0, rest.0), rest.1)
passes channel es (jumped old new snapshots ∷ ms) s is none shut lost = absurd none

-- after a close nothing moves
still : (channel : Channel) (es : List Event) (ms : List Move) (s : State) → Settles channel es s ms → is_closed es ≡ true → ms ≡ []
still channel es [] s is shut = refl
still channel es (m ∷ ms) s is shut = absurd (let none : next_move channel es s ≡ None = rw shut refl in let some : next_move channel es s ≡ Some m = is.0 in cc)

-- a close brings no packet
none_closing : (n : ℕ) (past : List Event) (e : Event) → is_closed (past ++ e ∷ []) ≡ true → first_of n (accepted_packets past) ≡ None → first_of n (accepted_packets (past ++ e ∷ [])) ≡ None
none_closing n past (came p) shut none = ap (first_of n) (packets-after_close past (came p) (sym (closed-came past p) ∙ shut)) ∙ none
none_closing n past (recovered s) shut none = ap (first_of n) (packets-recovered past s) ∙ none
none_closing n past closed shut none = ap (first_of n) (packets-closed past) ∙ none

-- after an event's moves the next packet isn't there, and the moves pass first packets
turn : (channel : Channel) (past : List Event) (e : Event) (ms : List Move) (s : State) (b : Bool) → is_closed (past ++ e ∷ []) ≡ b → first_of s.next (accepted_packets past) ≡ None
    → Settles channel (past ++ e ∷ []) s ms → HaveNoJump ms → is_lost channel (past ++ e ∷ []) (after_all s ms) ≡ false
    → ArePassed s.next (accepted_packets (past ++ e ∷ [])) ms × (first_of (after_all s ms).next (accepted_packets (past ++ e ∷ [])) ≡ None)
turn channel past e ms s false shut none is free lost = passes channel (past ++ e ∷ []) ms s is free shut lost
turn channel past e ms s true shut none is free lost =
    let absent : first_of s.next (accepted_packets (past ++ e ∷ [])) ≡ None = none_closing s.next past e shut none in
    rw (still channel (past ++ e ∷ []) ms s is shut) (absent, absent)

no_jump_left : (xs ys : List Move) → HaveNoJump (xs ++ ys) → HaveNoJump xs
no_jump_left [] ys none = tt
no_jump_left (passed p ∷ xs) ys none = no_jump_left xs ys none
no_jump_left (jumped old new snapshots ∷ xs) ys none = none

no_jump_right : (xs ys : List Move) → HaveNoJump (xs ++ ys) → HaveNoJump ys
no_jump_right [] ys none = none
no_jump_right (passed p ∷ xs) ys none = no_jump_right xs ys none
no_jump_right (jumped old new snapshots ∷ xs) ys none = absurd none

-- passes go on, where first packets stay
passed_on : (ps qs : List PacketContent) (ms rest : List Move) (s : State) → ((k : ℕ) → is_some (first_of k ps) ≡ true → first_of k qs ≡ first_of k ps) → ArePassed s.next ps ms
    → ArePassed (after_all s ms).next qs rest → ArePassed s.next qs (ms ++ rest)
passed_on ps qs [] rest s stay is on = on
passed_on ps qs (passed p ∷ ms) rest s stay is on =
    let some : is_some (first_of s.next ps) ≡ true = rw is.0 refl in
    (stay s.next some ∙ is.0, passed_on ps qs ms rest (after s (passed p)) stay is.1 on)
passed_on ps qs (jumped old new snapshots ∷ ms) rest s stay is on = absurd is

all_pass : (channel : Channel) (es past : List Event) (s : State) → first_of s.next (accepted_packets past) ≡ None → HaveNoJump (go_on channel past s es)
    → IsNeverLost channel past s es → ArePassed s.next (accepted_packets (past ++ es)) (go_on channel past s es)
all_pass channel [] past s none free never = rw (append-nil past) none
all_pass channel (e ∷ es) past s none free never =
    let now = past ++ e ∷ [] in
    let ms = settle channel now s in
    let rest = go_on channel now (after_all s ms) es in
    let here = turn channel past e ms s (is_closed now) refl none (settle_settles channel now s) (no_jump_left ms rest free) never.0 in
    let later = all_pass channel es now (after_all s ms) here.1 (no_jump_right ms rest free) never.1 in
    let whole : ArePassed s.next (accepted_packets (now ++ es)) (ms ++ rest) = passed_on (accepted_packets now) (accepted_packets (now ++ es)) ms rest s (λ k. stays k es now) here.0 later in
    subst (λ (t : List Event). ArePassed s.next (accepted_packets t) (ms ++ rest)) (append_assoc past (e ∷ []) es) whole

pub law_of_no_loss : LawOfNoLoss
law_of_no_loss channel es free never = all_pass channel es [] (first_state channel) refl free never
