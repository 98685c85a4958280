-- What a handler's text and books have to do with a complete feed that agrees with its events.
use Rattle.std.proofs.Common.{◌≡◌, ℕ, ◌-◌, ◌<◌, ◌++◌, Bool, true, false, List, take, refl, ap, subst, ◌∙◌, arith}
use Rattle.std.specs.Prelude.{◌&&◌, max, slice_get, Option, Some, None, IsSomeAnd, MatchOption}
use Rattle.std.specs.List.{AllZip}
use Rattle.std.proofs.lemmas.Bool.Decides.{nat_tests}
use Rattle.std.proofs.lemmas.Slice.Zip.{AllZip-right}
use Rattle.mdp_templates.specs.Packet.{PacketContent}
use Rattle.mdp_books.specs.Feed.{book_at, sent_by}
use Rattle.mdp_arbiter.specs.Channel.{Channel}
use Rattle.mdp_arbiter.specs.Machine.{moves_of, trace}
use Rattle.mdp_desks.specs.Moments.{Moment, moments}
use Rattle.mdp_desks.specs.Shown.{Footing, since_after}
use Rattle.mdp_desks.specs.declared.desk.Desk.{Desk}
use Rattle.mdp_engine.specs.Engine.{AreChanged, HoldsBook}
use Rattle.mdp_engine.proofs.Holding.{law_of_owed_books}
use Rattle.mdp_engine.specs.Kept.{kept_lines}
use Rattle.mdp_engine.proofs.Moving.{changed_since, lines_so_far}
use Rattle.mdp_engine.proofs.Owing.{law_of_honest_moments}
use Rattle.mdp_receiver.specs.Handling.{LawOfCurrentBooks, LawOfHandlers, is_within}

pub law_of_handlers : LawOfHandlers
law_of_handlers channel events gone v h =
    let listed = channel.listed in
    let changed : AreChanged listed (moments listed (moves_of channel events)) gone v.changed =
    subst (λ (c : Channel). AreChanged listed (moments listed (trace c events)) gone v.changed) h.channel_is (changed_since listed events gone v h.stands) in
    let text : kept_lines v.keeps_lines gone ++ v.held ≡ kept_lines v.keeps_lines (moments listed (moves_of channel events)) =
    lines_so_far listed events gone v h.stands ∙ ap (λ (c : Channel). kept_lines v.keeps_lines (moments listed (trace c events))) h.channel_is in (
      record {
        text = text;
        changed = changed;
      },
      λ feed honest. (
        record {
          text = text ∙ ap (kept_lines v.keeps_lines) (law_of_honest_moments channel feed events honest);
          changed = subst (λ (ms : List Moment). AreChanged listed ms gone v.changed) (law_of_honest_moments channel feed events honest) changed;
        },
        subst (λ (c : Channel). AllZip (HoldsBook feed v.arbiter.next) (since_after listed (trace c events)).footings v.desks) h.channel_is
            (law_of_owed_books listed feed events gone v honest h.stands),
      ),
    )

right_of : (a b : Bool) → (a && b) ≡ true → b ≡ true
right_of true b e = e
right_of false b e = cc

-- the book of a desk whose snapshot includes nothing that is still to come
current : (feed : List PacketContent) (next : ℕ) (desk : Desk) (start : Option Footing) → IsSomeAnd start (λ (i : Footing). HoldsBook feed next i desk) → desk.base < next → desk.book ≡ book_at desk.instrument (sent_by (take (next - 1) feed))
current feed next desk None holds before = absurd holds
current feed next desk (Some i) holds before =
    let same : max (next - 1) i.base ≡ next - 1 = omega (arith, before, holds.base) in
    holds.book ∙ ap (λ (n : ℕ). book_at i.instrument (sent_by (take n feed))) same ∙ rw (holds.instrument) refl

pub law_of_current_books : LawOfCurrentBooks
law_of_current_books channel events gone v feed slot desk h honest is at =
    let each = law_of_owed_books channel.listed feed events gone v honest h.stands in
    let footings = (since_after channel.listed (trace v.arbiter.channel events)).footings in
    let there = subst (λ (o : Option Desk). MatchOption o (Unit {0}) (λ (d : Desk). IsSomeAnd (slice_get footings slot) (λ (i : Footing). HoldsBook feed v.arbiter.next i d))) at
    (AllZip-right (HoldsBook feed v.arbiter.next) footings v.desks each slot) in
    let within : is_within v.arbiter.next (Some desk) ≡ true = subst (λ (o : Option Desk). is_within v.arbiter.next o ≡ true) at (right_of _ (is_within v.arbiter.next (slice_get v.desks slot)) is) in
    let before : desk.base < v.arbiter.next = grind (arith, nat_tests, within) in
    current feed v.arbiter.next desk (slice_get footings slot) there before
