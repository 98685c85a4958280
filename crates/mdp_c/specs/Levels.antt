-- The levels of a side of a book.
use Rattle.std.specs.Prelude.{ℕ, ◌==◌, if◌then◌else◌, List, [], map, Option, None, Some}
use Rattle.mdp_templates.specs.declared.entry.Level.{Level as BookLevel}
use Rattle.mdp_books.specs.declared.book.Book.{Book}
use Rattle.mdp_books.specs.declared.book.Book.TheVariants.{Good, Fault}
use Rattle.mdp_books.specs.declared.book.Sides.{Sides}
use Rattle.mdp_quotes.specs.Consolidation.{quotes_of}
use Rattle.mdp_quotes.specs.Quotes.{Quotes}
use Rattle.mdp_quotes.specs.declared.total.Total.{Total}
use Rattle.mdp_c.specs.declared.levels.Level.{Level}
use Rattle.mdp_c.specs.declared.levels.WhichBook.{WhichBook}
use Rattle.mdp_c.specs.declared.levels.WhichBook.TheVariants.{Direct, Implied, Consolidated}
use Rattle.mdp_c.specs.declared.levels.WhichSide.{WhichSide}
use Rattle.mdp_c.specs.declared.levels.WhichSide.TheVariants.{Bid, Offer}

abbrev pub book_of : ℕ → Option WhichBook
book_of number =
    if number == 0 then Some Direct else if number == 1 then Some Implied else if number == 2 then Some Consolidated
    else None

abbrev pub side_of : ℕ → Option WhichSide
side_of number = if number == 0 then Some Bid else if number == 1 then Some Offer else None

abbrev pub level_told : BookLevel → Level
level_told level = record { price = level.price; size = level.size }

abbrev pub total_told : Total → Level
total_told total = record { price = total.price; size = total.size }

abbrev pub direct_side : WhichSide → Sides → List BookLevel
direct_side Bid sides = sides.bids.levels
direct_side Offer sides = sides.offers.levels

abbrev pub implied_side : WhichSide → Sides → List BookLevel
implied_side Bid sides = sides.implied_bids.levels
implied_side Offer sides = sides.implied_offers.levels

abbrev pub quotes_side : WhichSide → Quotes → List Total
quotes_side Bid quotes = quotes.bids
quotes_side Offer quotes = quotes.offers

-- the best first; a faulty book has none
abbrev pub levels_of : WhichBook → WhichSide → Book → List Level
levels_of which side (Fault place) = []
levels_of Direct side (Good sides) = map level_told (direct_side side sides)
levels_of Implied side (Good sides) = map level_told (implied_side side sides)
levels_of Consolidated side (Good sides) = map total_told (quotes_side side (quotes_of sides))
