-- Which moments a run owes, read off the complete feed: at each event end what it shows of each listed security, and
-- each jump; and the lines of these.
use Rattle.std.specs.Prelude.{ℕ, ◌-◌, List, [], ◌∷◌, ◌++◌, Bool, true, false, ◌&&◌, if◌then◌else◌, map, take, drop, nat_lt, Option, Some, None}
use Rattle.mdp_templates.specs.Packet.{PacketContent}
use Rattle.mdp_templates.specs.Snapshot.{SnapshotContent}
use Rattle.mdp_templates.specs.declared.instrument.Instrument.{Instrument}
use Rattle.mdp_books.specs.Feed.{Sent, sent_by, book_at, behind}
use Rattle.mdp_arbiter.specs.Machine.{Move}
use Rattle.mdp_arbiter.specs.Machine.Move.{passed, jumped}
use Rattle.mdp_desks.specs.Lines.{Seen}
use Rattle.mdp_desks.specs.Moments.{Moment, at_jump, Walk, moments_through, and_then, text_of_moments}
use Rattle.mdp_desks.specs.Due.{is_printed}

-- a step of a run: a packet passes, or recovery jumps from one number to a later one and sets each listed security's
-- base
pub data NumberedMove : Type 0 where
  pass : ℕ → NumberedMove
  jump : ℕ → ℕ → List ℕ → NumberedMove

-- a listed security, the base that the last jump set (0 before one), and whether there was a jump
pub record NumberedFooting : Type 0 where
  pub instrument : Instrument
  pub base : ℕ
  pub jumped : Bool

abbrev pub numbered_at_jump : List Instrument → List ℕ → List NumberedFooting
numbered_at_jump [] bases = []
numbered_at_jump (i ∷ is) [] = []
numbered_at_jump (i ∷ is) (base ∷ bases) =
    record { instrument = i; base = base; jumped = true } ∷ numbered_at_jump is bases

abbrev pub numbered_before_jump : List Instrument → List NumberedFooting
numbered_before_jump listed = map (λ (i : Instrument). record { instrument = i; base = 0; jumped = false }) listed

abbrev pub numbered_through : List Instrument → List NumberedFooting → NumberedMove → List NumberedFooting
numbered_through listed so_far (pass k) = so_far
numbered_through listed so_far (jump old new bases) = numbered_at_jump listed bases

-- What message m, which comes after the messages `before`, shows of a security, which hears what stands behind its
-- base: none where m ends no event, or doesn't stand behind that base.
abbrev pub seen_at : List Sent → Sent → NumberedFooting → Option Seen
seen_at before m i =
    if m.end && nat_lt i.base m.packet then Some
    (record {
      instrument = i.instrument;
      printed = is_printed i.instrument.id i.jumped (behind i.base before) m;
      book = book_at i.instrument (before ++ m ∷ []);
    }) else None

-- at each message in turn, behind these ones
abbrev pub owed_walk : List NumberedFooting → Walk (List Sent)
owed_walk fs = record { shows = λ m so_far. map (seen_at so_far m) fs; goes = and_then }

abbrev pub owed_moments_from : List NumberedFooting → List Sent → List Sent → List Moment
owed_moments_from fs before ms = moments_through (owed_walk fs) before ms

-- those of a step, and of steps one after another, where the listed securities have these bases
abbrev pub owed_moments_of : List PacketContent → List NumberedFooting → NumberedMove → List Moment
owed_moments_of feed fs (pass k) =
    owed_moments_from fs (sent_by (take (k - 1) feed)) (sent_by (take 1 (drop (k - 1) feed)))
owed_moments_of feed fs (jump old new bases) = at_jump old new ∷ []

abbrev pub owed_moments_on : List Instrument → List PacketContent → List NumberedFooting → List NumberedMove
    → List Moment
owed_moments_on listed feed fs [] = []
owed_moments_on listed feed fs (s ∷ steps) =
    owed_moments_of feed fs s ++ owed_moments_on listed feed (numbered_through listed fs s) steps

-- the moments that these steps owe under a complete feed
abbrev pub owed_moments : List Instrument → List PacketContent → List NumberedMove → List Moment
owed_moments listed feed steps = owed_moments_on listed feed (numbered_before_jump listed) steps

-- and the lines
abbrev pub lines : List Instrument → List PacketContent → List NumberedMove → List ℕ
lines listed feed steps = text_of_moments (owed_moments listed feed steps)

-- ---- the steps of the recovery machine's moves

abbrev pub numbered_move : Move → NumberedMove
numbered_move (passed packet) = pass packet.number
numbered_move (jumped old new snapshots) = jump old new (map (λ (s : SnapshotContent). s.last) snapshots)

abbrev pub numbered_moves : List Move → List NumberedMove
numbered_moves moves = map numbered_move moves
