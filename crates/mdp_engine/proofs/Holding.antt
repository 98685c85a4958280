-- The desks hold the complete feed's books, where the events agree with it.
use Rattle.std.proofs.Common.{◌≡◌, ℕ, ◌+◌, ◌-◌, List, [], ◌∷◌, ◌++◌, map, take, sym, ap, subst, ◌∙◌, arith, inl, inr}
use Rattle.std.specs.Prelude.{max, fold}
use Rattle.std.specs.List.{AllZip, AllByRecursion}
use Rattle.std.proofs.lemmas.Bool.Decides.{leb_tells}
use Rattle.mdp_templates.specs.Packet.{PacketContent}
use Rattle.mdp_templates.specs.Snapshot.{SnapshotContent}
use Rattle.mdp_templates.specs.declared.instrument.Instrument.{Instrument}
use Rattle.mdp_books.specs.Feed.{Sent, sent_by, book_from, book_at, behind}
use Rattle.mdp_books.proofs.Feeds.{book_at-append}
use Rattle.mdp_arbiter.specs.Channel.{Channel}
use Rattle.mdp_arbiter.specs.Machine.{Move, State, after, after_all, first_state, state_at, trace}
use Rattle.mdp_arbiter.specs.Machine.Move.{passed, jumped}
use Rattle.mdp_desks.specs.declared.desk.Desk.{Desk}
use Rattle.mdp_desks.specs.Due.{is_due}
use Rattle.mdp_desks.specs.Shown.{SinceJump, Footing, since_after, since_through}
use Rattle.mdp_desks.specs.Shows.{DeskShows}
use Rattle.mdp_engine.specs.Feed.{IsFeed}
use Rattle.mdp_engine.specs.Owed.{NumberedFooting, numbered_at_jump, numbered_before_jump}
use Rattle.mdp_engine.specs.Agreed.{footing_of, AreOf}
use Rattle.mdp_engine.specs.Engine.{HoldsBook, LawOfOwedBooks}
use Rattle.mdp_engine.proofs.Agreeing.{Agrees, SameHeard, agrees_at_first, jump_agrees, pass_agrees}
use Rattle.mdp_engine.proofs.Fronts.{behind-front, sent_by-split}
use Rattle.mdp_engine.proofs.Honesty.{honest_moves_agree}
use Rattle.mdp_engine.proofs.Owing.{listed_channel}

-- ---- where the moves end

-- the listed securities stand as the feed has them, with some bases
record EndsAs (feed : List PacketContent) (next : ℕ) (sh : SinceJump) : Type 0 where
  pub footings : List NumberedFooting
  pub agrees : Agrees feed next footings sh

agrees_on : (listed : List Instrument) (feed : List PacketContent) (s : State) (fs : List NumberedFooting) (sh : SinceJump) (moves : List Move) → IsFeed feed → Agrees feed s.next fs sh → AreOf listed feed s.next moves
    → EndsAs feed (after_all s moves).next (fold (since_through listed) sh moves)
agrees_on listed feed s fs sh [] fed agrees are = record { footings = fs; agrees = agrees }
agrees_on listed feed s fs sh (passed p ∷ moves) fed agrees (number, at, later) =
    let here : Agrees feed p.number fs sh = subst (λ (k : ℕ). Agrees feed k fs sh) (sym number) agrees in
    let next : Agrees feed (s.next + 1) fs (since_through listed sh (passed p)) = subst (λ (k : ℕ). Agrees feed (k + 1) fs (since_through listed sh (passed p))) number (pass_agrees listed feed fs sh p at here) in
    agrees_on listed feed (after s (passed p)) fs (since_through listed sh (passed p)) moves fed next later
agrees_on listed feed s fs sh (jumped from to snapshots ∷ moves) fed agrees (is, later) =
    agrees_on listed feed (after s (jumped from to snapshots)) (numbered_at_jump listed (map (λ (x : SnapshotContent). x.last) snapshots)) (since_through listed sh (jumped from to snapshots)) moves fed
    (jump_agrees listed feed to snapshots fed is) later

-- ---- one security

-- its book of the feed, by what stands behind its base
book_behind : (feed : List PacketContent) (n : ℕ) (i : NumberedFooting) → IsFeed feed
    → book_at i.instrument (sent_by (take (max n i.base) feed)) ≡ book_from i.instrument (book_at i.instrument (sent_by (take i.base feed))) (behind i.base (sent_by (take n feed)))
book_behind feed n i fed = elim (leb_tells i.base n) [
  | inl under ↦
      let listed = i.instrument in
      let front = sent_by (take n feed) in
      let split : front ≡ sent_by (take i.base feed) ++ behind i.base front = sent_by-split feed i.base n fed under.1 in
      let most : max n i.base ≡ n = omega (arith, under.1) in
      ap (λ (k : ℕ). book_at listed (sent_by (take k feed))) most ∙ ap (book_at listed) split ∙ book_at-append listed (sent_by (take i.base feed)) (behind i.base front)
  | inr over ↦
      let listed = i.instrument in
      let none : behind i.base (sent_by (take n feed)) ≡ [] = behind-front feed i.base n fed (omega (arith, over.1)) in
      let most : max n i.base ≡ i.base = omega (arith, over.1) in
      ap (λ (k : ℕ). book_at listed (sent_by (take k feed))) most ∙ ap (book_from listed (book_at listed (sent_by (take i.base feed)))) (sym none)
]

desk_holds : (feed : List PacketContent) (next : ℕ) (i : NumberedFooting) (since : List Sent) (desk : Desk) → IsFeed feed → SameHeard since (sent_by (take (next - 1) feed)) (footing_of feed i) → DeskShows since (footing_of feed i) desk → HoldsBook feed next (footing_of feed i) desk
desk_holds feed next i since desk fed same shows = record {
  instrument = shows.instrument;
  base = shows.base;
  book = shows.book ∙ ap (book_from i.instrument (book_at i.instrument (sent_by (take i.base feed)))) same ∙ sym (book_behind feed (next - 1) i fed);
  marked = shows.marked ∙ ap (is_due i.instrument.id i.jumped) same;
}

-- ---- all securities

all_hold : (feed : List PacketContent) (next : ℕ) (since : List Sent) (fs : List NumberedFooting) (desks : List Desk) → IsFeed feed → AllByRecursion (SameHeard since (sent_by (take (next - 1) feed))) (map (footing_of feed) fs)
    → AllZip (DeskShows since) (map (footing_of feed) fs) desks → AllZip (HoldsBook feed next) (map (footing_of feed) fs) desks
all_hold feed next since [] [] fed same is = tt
all_hold feed next since [] (d ∷ desks) fed same is = elim is [ ]
all_hold feed next since (i ∷ fs) [] fed same is = elim is [ ]
all_hold feed next since (i ∷ fs) (d ∷ desks) fed same is =
    (desk_holds feed next i since d fed same.0 is.0, all_hold feed next since fs desks fed same.1 is.1)

pub law_of_owed_books : LawOfOwedBooks
law_of_owed_books listed feed es gone v honest stands =
    let channel = v.arbiter.channel in
    let moves = trace channel es in
    let sh = since_after listed moves in
    let are : AreOf listed feed 1 moves =
    subst (λ (c : Channel). AreOf listed feed 1 (trace c es)) (sym (listed_channel listed channel stands.settled.ids)) (honest_moves_agree (record { listed = listed; room = channel.room; start = channel.start }) feed es honest) in
    let end : EndsAs feed (state_at channel es).next sh = agrees_on listed feed (first_state channel) (numbered_before_jump listed) (since_after listed []) moves honest.complete (agrees_at_first feed listed) are in
    let fs = end.footings in
    let agrees : Agrees feed v.arbiter.next fs sh = subst (λ (s : State). Agrees feed s.next fs sh) (sym stands.settled.state) end.agrees in
    let same = subst (λ (footings : List Footing). AllByRecursion (SameHeard sh.since (sent_by (take (v.arbiter.next - 1) feed))) footings) agrees.footings agrees.same in
    let each = subst (λ (footings : List Footing). AllZip (DeskShows sh.since) footings v.desks) agrees.footings stands.shows.each in
    subst (λ (footings : List Footing). AllZip (HoldsBook feed v.arbiter.next) footings v.desks) (sym agrees.footings) (all_hold feed v.arbiter.next sh.since fs v.desks honest.complete same each)
