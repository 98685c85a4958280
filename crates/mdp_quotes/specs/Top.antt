-- The top of a consolidated book: the first total of each side.
use Rattle.std.specs.Prelude.{slice_get, Option, Some, None}
use Rattle.mdp_books.specs.declared.book.Book.{Book}
use Rattle.mdp_books.specs.declared.book.Book.TheVariants.{Good, Fault}
use Rattle.mdp_quotes.specs.declared.top.TopOfBook.{TopOfBook}
use Rattle.mdp_quotes.specs.Quotes.{Quotes}
use Rattle.mdp_quotes.specs.Consolidation.{quotes_of}

abbrev pub top_of_quotes : Quotes → TopOfBook
top_of_quotes quotes = record { bid = slice_get quotes.bids 0; offer = slice_get quotes.offers 0 }

-- none exactly for a fault
abbrev pub top_of_book : Book → Option TopOfBook
top_of_book (Good sides) = Some (top_of_quotes (quotes_of sides))
top_of_book (Fault place) = None
