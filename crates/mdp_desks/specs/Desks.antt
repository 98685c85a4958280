-- What the code does to a security's desk, as a function. What the moves show is defined elsewhere, with no desk.
use Rattle.std.specs.Prelude.{Option, Some, None, false, ℕ, List, [], ◌∷◌, true, not, ◌+◌, ◌&&◌, ◌||◌, if◌then◌else◌, map, nat_lt, slice_get}
use Rattle.mdp_templates.specs.Snapshot.{SnapshotContent}
use Rattle.mdp_templates.specs.declared.entry.Entry.{Entry}
use Rattle.mdp_templates.specs.declared.instrument.Instrument.{Instrument}
use Rattle.mdp_books.specs.declared.book.Place.{Place}
use Rattle.mdp_books.specs.Book.{empty_book, book_of_snapshot, after_entry}
use Rattle.mdp_books.specs.Feed.{Sent, names, place_at, book_after, is_named_in}
use Rattle.mdp_desks.specs.declared.desk.Desk.{Desk}
use Rattle.mdp_desks.specs.Lines.{Seen}
use Rattle.mdp_desks.specs.Moments.{Moment, Walk, moment_at, moments_through}

-- before any packet
abbrev pub desk_at_start : Instrument → Desk
desk_at_start i = record { instrument = i; base = 0; book = empty_book i.depth; marked = false }

-- an entry for the security, where its packet stands behind the base
abbrev pub desk_entered : Place → Entry → Desk → Desk
desk_entered place entry d =
    if nat_lt d.base place.packet then
    record { instrument = d.instrument; base = d.base; book = after_entry place entry d.book; marked = true }
    else d

-- an entry that may be for another security
abbrev pub desk_heard : Place → Entry → Desk → Desk
desk_heard place entry d = if names d.instrument.id entry then desk_entered place entry d else d

-- the entries of a message, the first of which has this number
abbrev pub desks_through : ℕ → ℕ → ℕ → List Entry → List Desk → List Desk
desks_through packet message n [] ds = ds
desks_through packet message n (entry ∷ entries) ds =
    desks_through packet message (n + 1) entries (map (desk_heard (place_at packet message n) entry) ds)

-- where an event ends the mark goes
abbrev pub desk_settled : ℕ → Desk → Desk
desk_settled packet d =
    if nat_lt d.base packet then
    record { instrument = d.instrument; base = d.base; book = d.book; marked = false }
    else d

-- what an event end in this packet shows of the desk as it is
abbrev pub desk_standing : ℕ → Desk → Option Seen
desk_standing packet d =
    if nat_lt d.base packet then
    Some (record { instrument = d.instrument; printed = d.marked; book = d.book })
    else None

-- a whole message
abbrev pub desk_with_message : Sent → Desk → Desk
desk_with_message m d = record {
  instrument = d.instrument;
  base = d.base;
  book = book_after d.instrument d.book m;
  marked = not m.end && (d.marked || is_named_in d.instrument.id m);
}

abbrev pub desk_after : Sent → Desk → Desk
desk_after m d = if nat_lt d.base m.packet then desk_with_message m d else d

abbrev pub desk_seen : Sent → Desk → Option Seen
desk_seen m d =
    if m.end && nat_lt d.base m.packet then
    Some (record {
      instrument = d.instrument;
      printed = d.marked || is_named_in d.instrument.id m;
      book = book_after d.instrument d.book m;
    })
    else None

abbrev pub desks_after : Sent → List Desk → List Desk
desks_after m ds = map (desk_after m) ds

-- message by message
abbrev pub passed_desks : List Sent → List Desk → List Desk
passed_desks [] ds = ds
passed_desks (m ∷ ms) ds = passed_desks ms (desks_after m ds)

-- the moments of a message, and message by message
abbrev pub desks_moment : Sent → List Desk → List Moment
desks_moment m ds = moment_at m (map (desk_seen m) ds)

abbrev pub desks_walk : Walk (List Desk)
desks_walk = record { shows = λ m desks. map (desk_seen m) desks; goes = desks_after }

abbrev pub passed_moments : List Sent → List Desk → List Moment
passed_moments ms ds = moments_through desks_walk ds ms

-- a jump: the snapshot is the base and the book, and the security is due at the first event end behind it
abbrev pub desk_rebased : SnapshotContent → Desk → Desk
desk_rebased s d =
    record { instrument = d.instrument; base = s.last; book = book_of_snapshot d.instrument.depth s; marked = true }

abbrev pub desk_jumped : Option SnapshotContent → Desk → Desk
desk_jumped None d = d
desk_jumped (Some s) d = desk_rebased s d

-- the snapshots at these slots, of those of all listed securities
abbrev pub snapshots_at : List ℕ → List SnapshotContent → List (Option SnapshotContent)
snapshots_at slots snapshots = map (λ (slot : ℕ). slice_get snapshots slot) slots

-- desk by desk, each with its snapshot where there is one
abbrev pub rebased_desks : List (Option SnapshotContent) → List Desk → List Desk
rebased_desks bases [] = []
rebased_desks [] (d ∷ ds) = d ∷ ds
rebased_desks (base ∷ bases) (d ∷ ds) = desk_jumped base d ∷ rebased_desks bases ds
