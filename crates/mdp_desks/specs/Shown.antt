-- What the moves themselves show of each listed security, with no complete feed: a packet that passes bears its
-- messages, a jump its snapshots.
use Rattle.std.specs.Prelude.{Option, Some, None, ℕ, List, [], ◌∷◌, ◌++◌, Bool, true, false, ◌&&◌, if◌then◌else◌, fold, map, nat_lt}
use Rattle.mdp_templates.specs.Snapshot.{SnapshotContent}
use Rattle.mdp_templates.specs.declared.instrument.Instrument.{Instrument}
use Rattle.mdp_books.specs.declared.book.Book.{Book}
use Rattle.mdp_books.specs.Book.{empty_book, book_of_snapshot}
use Rattle.mdp_books.specs.Feed.{Sent, sent_in, book_from, behind}
use Rattle.mdp_desks.specs.Lines.{Seen}
use Rattle.mdp_desks.specs.Due.{is_printed}
use Rattle.mdp_arbiter.specs.Machine.{Move}
use Rattle.mdp_arbiter.specs.Machine.Move.{passed, jumped}

-- a listed security with its book in the last jump, empty before one
pub record Footing : Type 0 where
  pub instrument : Instrument
  pub base : ℕ
  pub jumped : Bool
  pub book : Book

abbrev pub footing_at_snapshot : Instrument → SnapshotContent → Footing
footing_at_snapshot i snapshot =
    record { instrument = i; base = snapshot.last; jumped = true; book = book_of_snapshot i.depth snapshot }

abbrev pub footings_at_jump : List Instrument → List SnapshotContent → List Footing
footings_at_jump [] snapshots = []
footings_at_jump (i ∷ is) [] = []
footings_at_jump (i ∷ is) (snapshot ∷ snapshots) = footing_at_snapshot i snapshot ∷ footings_at_jump is snapshots

-- before any jump
abbrev pub footings_before_jump : List Instrument → List Footing
footings_before_jump listed =
    map (λ (i : Instrument). record { instrument = i; base = 0; jumped = false; book = empty_book i.depth }) listed

-- the last jump's footings, and the messages passed since
pub record SinceJump : Type 0 where
  pub footings : List Footing
  pub since : List Sent

abbrev pub since_through : List Instrument → SinceJump → Move → SinceJump
since_through listed so_far (passed packet) =
    record { footings = so_far.footings; since = so_far.since ++ sent_in packet }
since_through listed so_far (jumped old new snapshots) =
    record { footings = footings_at_jump listed snapshots; since = [] }

abbrev pub since_after : List Instrument → List Move → SinceJump
since_after listed moves =
    fold (since_through listed) (record { footings = footings_before_jump listed; since = [] }) moves

-- A security hears the messages behind its base. Its book is the snapshot's after what it heard.
abbrev pub book_since : Footing → List Sent → Book
book_since i since = book_from i.instrument i.book (behind i.base since)

abbrev pub seen_since : List Sent → Sent → Footing → Option Seen
seen_since since m i =
    if m.end && nat_lt i.base m.packet then Some
    (record {
      instrument = i.instrument;
      printed = is_printed i.instrument.id i.jumped (behind i.base since) m;
      book = book_since i (since ++ m ∷ []);
    }) else None
