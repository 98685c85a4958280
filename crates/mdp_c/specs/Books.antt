-- What is told of the book at a slot.
use Rattle.std.specs.Prelude.{ℕ, pos, Bool, true, false, is_some, if◌then◌else◌, List, length, slice_get, Option, None, Some}
use Rattle.std.specs.Option.{option_map}
use Rattle.mdp_books.specs.declared.book.Book.{Book}
use Rattle.mdp_books.specs.declared.book.Book.TheVariants.{Good, Fault}
use Rattle.mdp_quotes.specs.Top.{top_of_book}
use Rattle.mdp_quotes.specs.declared.top.TopOfBook.{TopOfBook}
use Rattle.mdp_quotes.specs.declared.total.Total.{Total}
use Rattle.mdp_desks.specs.declared.desk.Desk.{Desk}
use Rattle.mdp_engine.specs.Engine.{View}
use Rattle.mdp_receiver.specs.Handling.{is_current}
use Rattle.mdp_c.specs.Copies.{copied, room_status}
use Rattle.mdp_c.specs.Levels.{book_of, levels_of, side_of, total_told}
use Rattle.mdp_c.specs.Statuses.{done, is_closed, out_of_range}
use Rattle.mdp_c.specs.declared.books.Best.{Best}
use Rattle.mdp_c.specs.declared.books.BookFault.{BookFault}
use Rattle.mdp_c.specs.declared.levels.Level.{Level}
use Rattle.mdp_c.specs.declared.levels.WhichBook.{WhichBook}
use Rattle.mdp_c.specs.declared.levels.WhichSide.{WhichSide}

-- the book at a slot, if the handle is open and a security is listed there
abbrev pub book_at : Option View → ℕ → Option Book
book_at None slot = None
book_at (Some v) slot = option_map (λ (d : Desk). d.book) (slice_get v.desks slot)

-- what is answered for a slot
abbrev pub slot_status : Option View → ℕ → ℕ
slot_status None slot = is_closed
slot_status (Some v) slot = if is_some (slice_get v.desks slot) then done else out_of_range

-- whether the book is the one right before the packet that comes next
abbrev pub current_at : Option View → ℕ → Option Bool
current_at None slot = None
current_at (Some v) slot = option_map (λ (d : Desk). is_current v slot) (slice_get v.desks slot)

-- ---- the best levels

abbrev pub flag : Bool → ℕ
flag true = 1
flag false = 0

abbrev pub no_level : Level
no_level = record { price = pos 0; size = pos 0 }

abbrev pub level_or_none : Option Total → Level
level_or_none (Some total) = total_told total
level_or_none None = no_level

abbrev pub best_of : TopOfBook → Best
best_of top = record {
  bid = level_or_none top.bid;
  offer = level_or_none top.offer;
  has_bid = flag (is_some top.bid);
  has_offer = flag (is_some top.offer);
  is_faulty = 0;
  reserved = 0;
}

-- those of a good book; a faulty one has none
abbrev pub best_told : Option TopOfBook → Best
best_told (Some top) = best_of top
best_told None = record { bid = no_level; offer = no_level; has_bid = 0; has_offer = 0; is_faulty = 1; reserved = 0 }

abbrev pub best_at : Option View → ℕ → Option Best
best_at h slot = option_map (λ (book : Book). best_told (top_of_book book)) (book_at h slot)

-- ---- the fault

abbrev pub fault_told : Book → BookFault
fault_told (Good sides) = record { message = 0; packet = 0; entry = 0; is_faulty = 0; reserved = 0 }
fault_told (Fault place) =
    record { message = place.message; packet = place.packet; entry = place.entry; is_faulty = 1; reserved = 0 }

abbrev pub fault_at : Option View → ℕ → Option BookFault
fault_at h slot = option_map fault_told (book_at h slot)

-- ---- the levels of a side

abbrev pub levels_in : Option WhichBook → Option WhichSide → Option Book → Option (List Level)
levels_in (Some which) (Some side) book = option_map (levels_of which side) book
levels_in (Some which) None book = None
levels_in None side book = None

-- those of the book and the side of these numbers, if there are such and a security is listed at the slot
abbrev pub levels_at : Option View → ℕ → ℕ → ℕ → Option (List Level)
levels_at h slot book side = levels_in (book_of book) (side_of side) (book_at h slot)

abbrev pub levels_status : Option View → Option (List Level) → ℕ → ℕ
levels_status None levels room = is_closed
levels_status (Some v) None room = out_of_range
levels_status (Some v) (Some levels) room = room_status levels room

abbrev pub levels_copied : Option (List Level) → List Level → List Level
levels_copied None array = array
levels_copied (Some levels) array = copied levels array

abbrev pub levels_count : Option (List Level) → ℕ → ℕ
levels_count None count = count
levels_count (Some levels) count = length levels
