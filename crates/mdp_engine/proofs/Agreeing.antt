-- The moves have the moments that the complete feed owes.
use Rattle.std.proofs.Common.{Bool, ◌≡◌, ◌≤◌, ℕ, suc, zero, ◌+◌, ◌-◌, true, cond, List, [], ◌∷◌, ◌++◌, map, take, drop, refl, sym, ap, subst, ◌∙◌, arith}
use Rattle.std.specs.Prelude.{Option, Some, None, ◌&&◌, nat_lt, slice_get}
use Rattle.std.specs.List.{AllZip, AllByRecursion}
use Rattle.std.proofs.lemmas.List.{append-nil}
use Rattle.std.proofs.lemmas.List.Concat.{flat_map-append}
use Rattle.std.proofs.lemmas.Bool.Decides.{nat_tests}
use Rattle.mdp_templates.specs.Packet.{PacketContent, MessageContent}
use Rattle.mdp_templates.specs.Snapshot.{SnapshotContent}
use Rattle.mdp_templates.specs.declared.instrument.Instrument.{Instrument}
use Rattle.mdp_books.specs.declared.book.Book.{Book}
use Rattle.mdp_books.specs.Feed.{Sent, sent_from, sent_in, sent_by, behind, book_from, book_at}
use Rattle.mdp_books.proofs.Feeds.{behind-append}
use Rattle.mdp_engine.specs.Feed.{IsFeed, IsIn, IsJumpedTo}
use Rattle.mdp_desks.specs.Lines.{Seen}
use Rattle.mdp_engine.specs.Owed.{NumberedFooting, numbered_at_jump, numbered_before_jump, owed_walk, owed_moments_from, owed_moments_of, owed_moments_on}
use Rattle.mdp_engine.specs.Owed.NumberedMove.{pass}
use Rattle.mdp_arbiter.specs.Machine.{Move}
use Rattle.mdp_desks.specs.Shown.{Footing, SinceJump, footings_at_jump, since_after, since_through, seen_since, footings_before_jump}
use Rattle.mdp_desks.specs.Moments.{Moment, at_jump, moments_from, moments_of, moments_on, walk_from}
use Rattle.mdp_desks.proofs.Moments.{Alike, same_moments}
use Rattle.mdp_desks.specs.Due.{is_printed}
use Rattle.mdp_engine.specs.Owed.{numbered_moves}
use Rattle.mdp_arbiter.specs.Machine.Move.{passed, jumped}
use Rattle.mdp_engine.specs.Agreed.{footing_of, AreOf}
use Rattle.mdp_engine.specs.MomentLaws.{LawOfOwedMoments}
use Rattle.mdp_engine.proofs.Fronts.{Heard, sent_by-split, behind-front, all_seen, heard_more as feed_heard_more}

-- ---- what the listed securities hear

all_heard : (feed : List PacketContent) (next : ℕ) (fs : List NumberedFooting) → 1 ≤ next → IsFeed feed → AllByRecursion (Heard feed next (sent_by (take (next - 1) feed))) fs
all_heard feed next [] first is = tt
all_heard feed next (i ∷ fs) first is =
    let here : Heard feed next (sent_by (take (next - 1) feed)) i = λ over. let less : suc i.base ≤ next = grind (arith, nat_tests, over) in sent_by-split feed i.base (next - 1) is (omega arith) in
    (here, all_heard feed next fs first is)

-- ---- the feed's next packet

take_at : (feed : List PacketContent) (n : ℕ) (p : PacketContent) → slice_get feed n ≡ Some p → take (suc n) feed ≡ take n feed ++ p ∷ []
take_at [] n p place = absurd cc
take_at (x ∷ feed) zero p place = let same : x ≡ p = cc in ap (λ (w : PacketContent). w ∷ []) same
take_at (x ∷ feed) (suc n) p place = ap (λ (t : List PacketContent). x ∷ t) (take_at feed n p place)

one_at : (feed : List PacketContent) (n : ℕ) (p : PacketContent) → slice_get feed n ≡ Some p → take 1 (drop n feed) ≡ p ∷ []
one_at [] n p place = absurd cc
one_at (x ∷ feed) zero p place = let same : x ≡ p = cc in ap (λ (w : PacketContent). w ∷ []) same
one_at (x ∷ feed) (suc n) p place = one_at feed n p place

front_more : (feed : List PacketContent) (p : PacketContent) → IsIn feed p → sent_by (take (p.number + 1 - 1) feed) ≡ sent_by (take (p.number - 1) feed) ++ sent_in p
front_more feed p at =
    let n : p.number + 1 - 1 ≡ suc (p.number - 1) = omega (arith, at.first) in
    ap (λ (k : ℕ). sent_by (take k feed)) n
    ∙ ap sent_by (take_at feed (p.number - 1) p at.place)
    ∙ flat_map-append sent_in (take (p.number - 1) feed) (p ∷ [])
    ∙ ap (λ (t : List Sent). sent_by (take (p.number - 1) feed) ++ t) (append-nil (sent_in p))

-- ---- securities that hear the same of two lists of messages print the same

abbrev pub SameHeard : List Sent → List Sent → Footing → Type 0
SameHeard a b i = behind i.base a ≡ behind i.base b

abbrev seen_as : Instrument → Bool → Book → Option Seen
seen_as instrument printed book = Some (record { instrument = instrument; printed = printed; book = book })

heard_more : (a b more : List Sent) (i : Footing) → SameHeard a b i → SameHeard (a ++ more) (b ++ more) i
heard_more a b more i same = behind-append i.base a more ∙ ap (λ (t : List Sent). t ++ behind i.base more) same ∙ sym (behind-append i.base b more)

same_seen : (a b : List Sent) (m : Sent) (i : Footing) → SameHeard a b i → seen_since a m i ≡ seen_since b m i
same_seen a b m i same =
    ap (λ (h : List Sent). cond (m.end && nat_lt i.base m.packet) (seen_as i.instrument (is_printed i.instrument.id i.jumped h m) (book_from i.instrument i.book (behind i.base (a ++ m ∷ [])))) None) same
    ∙ ap (λ (h : List Sent). cond (m.end && nat_lt i.base m.packet) (seen_as i.instrument (is_printed i.instrument.id i.jumped (behind i.base b) m) (book_from i.instrument i.book h)) None) (heard_more a b (m ∷ []) i same)

all_same : (a b : List Sent) (m : Sent) (footings : List Footing) → AllByRecursion (SameHeard a b) footings → map (seen_since a m) footings ≡ map (seen_since b m) footings
all_same a b m [] is = refl
all_same a b m (i ∷ footings) is =
    ap (λ (s : Option Seen). s ∷ map (seen_since a m) footings) (same_seen a b m i is.0)
    ∙ ap (λ (t : List (Option Seen)). seen_since b m i ∷ t) (all_same a b m footings is.1)

same_more : (a b more : List Sent) (footings : List Footing) → AllByRecursion (SameHeard a b) footings → AllByRecursion (SameHeard (a ++ more) (b ++ more)) footings
same_more a b more [] is = tt
same_more a b more (i ∷ footings) is = (heard_more a b more i is.0, same_more a b more footings is.1)

-- ---- what the moves show, and the front of the feed below `next`

pub record Agrees (feed : List PacketContent) (next : ℕ) (fs : List NumberedFooting) (sh : SinceJump) : Type 0 where
  pub footings : sh.footings ≡ map (footing_of feed) fs
  pub same : AllByRecursion (SameHeard sh.since (sent_by (take (next - 1) feed))) sh.footings

abbrev pub AllJumped : List PacketContent → ℕ → List Instrument → List SnapshotContent → Type 0
AllJumped feed to listed snapshots = AllZip (λ (i : Instrument) (s : SnapshotContent). IsJumpedTo feed to i s) listed snapshots

abbrev pub lasts : List SnapshotContent → List ℕ
lasts snapshots = map (λ (s : SnapshotContent). s.last) snapshots

jump_starts : (feed : List PacketContent) (to : ℕ) (listed : List Instrument) (snapshots : List SnapshotContent) → AllJumped feed to listed snapshots → footings_at_jump listed snapshots ≡ map (footing_of feed) (numbered_at_jump listed (lasts snapshots))
jump_starts feed to [] [] is = refl
jump_starts feed to [] (s ∷ snapshots) is = elim is [ ]
jump_starts feed to (i ∷ listed) [] is = elim is [ ]
jump_starts feed to (i ∷ listed) (s ∷ snapshots) is =
    let make : Book → Footing = λ book. record { instrument = i; base = s.last; jumped = true; book = book } in
    ap (λ (book : Book). make book ∷ footings_at_jump listed snapshots) is.0.is.book
    ∙ ap (λ (t : List Footing). make (book_at i (sent_by (take s.last feed))) ∷ t) (jump_starts feed to listed snapshots is.1)

jump_same : (feed : List PacketContent) (to : ℕ) (listed : List Instrument) (snapshots : List SnapshotContent) → IsFeed feed → AllJumped feed to listed snapshots → AllByRecursion (SameHeard [] (sent_by (take (to - 1) feed))) (footings_at_jump listed snapshots)
jump_same feed to [] [] fed is = tt
jump_same feed to [] (s ∷ snapshots) fed is = elim is [ ]
jump_same feed to (i ∷ listed) [] fed is = elim is [ ]
jump_same feed to (i ∷ listed) (s ∷ snapshots) fed is = (sym (behind-front feed s.last (to - 1) fed (omega (arith, is.0.covers))), jump_same feed to listed snapshots fed is.1)

start_starts : (feed : List PacketContent) (listed : List Instrument) → footings_before_jump listed ≡ map (footing_of feed) (numbered_before_jump listed)
start_starts feed [] = refl
start_starts feed (i ∷ listed) = let others = start_starts feed listed in cc others

start_same : (footings : List Footing) → AllByRecursion (SameHeard [] []) footings
start_same [] = tt
start_same (i ∷ footings) = (refl, start_same footings)

-- ---- the moments of one packet: the securities heard the same since their bases as the feed has behind them

record HearAlike (feed : List PacketContent) (fs : List NumberedFooting) (k : ℕ) (since before : List Sent) : Type 0 where
  same : AllByRecursion (SameHeard since before) (map (footing_of feed) fs)
  heard : AllByRecursion (Heard feed k before) fs

alike : (feed : List PacketContent) (fs : List NumberedFooting) (k : ℕ) → Alike (λ (m : Sent). m.packet ≡ k) (HearAlike feed fs k) (walk_from (map (footing_of feed) fs)) (owed_walk fs)
alike feed fs k = record {
  same = λ m since before is both. all_same since before m (map (footing_of feed) fs) both.same ∙ sym (all_seen feed before m fs (subst (λ (n : ℕ). AllByRecursion (Heard feed n before) fs) (sym is) both.heard));
  on = λ m since before is both. record {
    same = same_more since before (m ∷ []) (map (footing_of feed) fs) both.same;
    heard = subst (λ (n : ℕ). AllByRecursion (Heard feed n (before ++ m ∷ [])) fs) is (feed_heard_more feed before m fs (subst (λ (n : ℕ). AllByRecursion (Heard feed n before) fs) (sym is) both.heard));
  };
}

of_packet : (k j : ℕ) (ms : List MessageContent) → AllByRecursion (λ (m : Sent). m.packet ≡ k) (sent_from k j ms)
of_packet k j [] = tt
of_packet k j (m ∷ ms) = (refl, of_packet k (j + 1) ms)

pass_owed : (feed : List PacketContent) (fs : List NumberedFooting) (sh : SinceJump) (p : PacketContent) → IsFeed feed → IsIn feed p → Agrees feed p.number fs sh → moments_of sh (passed p) ≡ owed_moments_of feed fs (pass p.number)
pass_owed feed fs sh p fed at agrees =
    let k = p.number in
    let front = sent_by (take (k - 1) feed) in
    let here : sent_by (take 1 (drop (k - 1) feed)) ≡ sent_in p = ap sent_by (one_at feed (k - 1) p at.place) ∙ append-nil (sent_in p) in
    let both : HearAlike feed fs k sh.since front = record { same = subst (AllByRecursion (SameHeard sh.since front)) agrees.footings agrees.same; heard = all_heard feed k fs at.first fed } in
    ap (λ (footings : List Footing). moments_from footings sh.since (sent_in p)) agrees.footings
    ∙ same_moments (λ (m : Sent). m.packet ≡ k) (HearAlike feed fs k) (walk_from (map (footing_of feed) fs)) (owed_walk fs) (alike feed fs k) sh.since front (sent_in p) (of_packet k 1 p.messages) both
    ∙ ap (owed_moments_from fs front) (sym here)

pub pass_agrees : (listed : List Instrument) (feed : List PacketContent) (fs : List NumberedFooting) (sh : SinceJump) (p : PacketContent) → IsIn feed p → Agrees feed p.number fs sh → Agrees feed (p.number + 1) fs (since_through listed sh (passed p))
pass_agrees listed feed fs sh p at agrees = record {
  footings = agrees.footings;
  same =
      subst (λ (b : List Sent). AllByRecursion (SameHeard (sh.since ++ sent_in p) b) sh.footings) (sym (front_more feed p at))
      (same_more sh.since (sent_by (take (p.number - 1) feed)) (sent_in p) sh.footings agrees.same);
}

pub jump_agrees : (listed : List Instrument) (feed : List PacketContent) (to : ℕ) (snapshots : List SnapshotContent) → IsFeed feed → AllJumped feed to listed snapshots → Agrees feed to (numbered_at_jump listed (lasts snapshots)) (record { footings = footings_at_jump listed snapshots; since = [] })
jump_agrees listed feed to snapshots fed is = record { footings = jump_starts feed to listed snapshots is; same = jump_same feed to listed snapshots fed is }

-- before any move
pub agrees_at_first : (feed : List PacketContent) (listed : List Instrument) → Agrees feed 1 (numbered_before_jump listed) (since_after listed [])
agrees_at_first feed listed = record { footings = start_starts feed listed; same = start_same (footings_before_jump listed) }

owed_on : (listed : List Instrument) (feed : List PacketContent) (next : ℕ) (fs : List NumberedFooting) (sh : SinceJump) (moves : List Move) → IsFeed feed → Agrees feed next fs sh → AreOf listed feed next moves
    → moments_on listed sh moves ≡ owed_moments_on listed feed fs (numbered_moves moves)
owed_on listed feed next fs sh [] fed agrees are = refl
owed_on listed feed next fs sh (passed p ∷ moves) fed agrees (number, at, later) =
    let here : Agrees feed p.number fs sh = subst (λ (k : ℕ). Agrees feed k fs sh) (sym number) agrees in
    let rest : AreOf listed feed (p.number + 1) moves = subst (λ (k : ℕ). AreOf listed feed (k + 1) moves) (sym number) later in
    ap (λ (t : List Moment). t ++ moments_on listed (since_through listed sh (passed p)) moves) (pass_owed feed fs sh p fed at here)
    ∙ ap (λ (t : List Moment). owed_moments_of feed fs (pass p.number) ++ t) (owed_on listed feed (p.number + 1) fs (since_through listed sh (passed p)) moves fed (pass_agrees listed feed fs sh p at here) rest)
owed_on listed feed next fs sh (jumped from to snapshots ∷ moves) fed agrees (is, later) =
    ap (λ (t : List Moment). at_jump from to ∷ t)
    (owed_on listed feed to (numbered_at_jump listed (lasts snapshots)) (since_through listed sh (jumped from to snapshots)) moves fed (jump_agrees listed feed to snapshots fed is) later)

pub law_of_owed_moments : LawOfOwedMoments
law_of_owed_moments listed feed moves fed are =
    owed_on listed feed 1 (numbered_before_jump listed) (since_after listed []) moves fed (agrees_at_first feed listed) are
