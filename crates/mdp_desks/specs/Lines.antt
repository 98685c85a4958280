-- What an event end shows of each listed security, and the lines of it: books, and the verdicts on calendar spreads.
use Rattle.std.specs.Prelude.{ℕ, ℤ, List, [], ◌∷◌, ◌++◌, Bool, ◌||◌, if◌then◌else◌, Option, Some, None}
use Rattle.std.specs.List.{flat_map}
use Rattle.std.specs.Ordering.{int_eq}
use Rattle.mdp_templates.specs.declared.instrument.Instrument.{Instrument}
use Rattle.mdp_templates.specs.declared.instrument.InstrumentKind.{InstrumentKind}
use Rattle.mdp_templates.specs.declared.instrument.InstrumentKind.TheVariants.{Outright, Calendar}
use Rattle.mdp_books.specs.declared.book.Book.{Book}
use Rattle.mdp_books.specs.declared.book.Sides.{Sides}
use Rattle.mdp_books.specs.declared.book.Book.TheVariants.{Good, Fault}
use Rattle.mdp_books.specs.declared.event_end.EventEnd.{EventEnd}
use Rattle.mdp_quotes.specs.declared.best.Best.{Best}
use Rattle.mdp_quotes.specs.Best.{best_of}
use Rattle.mdp_quotes.specs.Consolidation.{quotes_of}
use Rattle.mdp_quotes.specs.Verdict.{bid_verdict, offer_verdict}
use Rattle.mdp_print.specs.Texts.{head_text, direct_line, implied_line, consolidated_line, fault_line, audit_line}

-- what an event end shows of a security: its book, and whether it is printed
pub record Seen : Type 0 where
  pub instrument : Instrument
  pub printed : Bool
  pub book : Book

-- the lines of a good book behind their letters: direct, implied and consolidated
abbrev pub sides_lines : List ℕ → Sides → List ℕ
sides_lines head sides =
    direct_line head sides.bids.levels sides.offers.levels
    ++ (implied_line head sides.implied_bids.levels sides.implied_offers.levels
    ++ consolidated_line head (quotes_of sides).bids (quotes_of sides).offers)

-- the lines of a book where an event ends: those of its sides, or the place of its fault
abbrev pub book_lines : EventEnd → List ℕ → Book → List ℕ
book_lines end name (Good sides) = sides_lines (head_text end name) sides
book_lines end name (Fault place) = fault_line end name place

abbrev pub text_of : EventEnd → Option Seen → List ℕ
text_of end None = []
text_of end (Some s) = if s.printed then book_lines end s.instrument.name s.book else []

-- what an event end shows of the security of an id
abbrev pub seen_of : ℤ → List (Option Seen) → Option Seen
seen_of id [] = None
seen_of id (None ∷ seen) = seen_of id seen
seen_of id (Some s ∷ seen) = if int_eq s.instrument.id id then Some s else seen_of id seen

-- the line of a spread's verdicts; a fault has no best levels, and then there is none
abbrev pub verdicts_text : EventEnd → List ℕ → Option Best → Option Best → Option Best → List ℕ
verdicts_text end name (Some spread) (Some leg1) (Some leg2) =
    audit_line end name (bid_verdict spread leg1 leg2) (offer_verdict spread leg1 leg2)
verdicts_text end name spread leg1 leg2 = []

-- a spread is audited where it and both its legs are seen, and one of the three is printed
abbrev pub spread_text : EventEnd → Option Seen → Option Seen → Option Seen → List ℕ
spread_text end (Some s) (Some leg1) (Some leg2) =
    if s.printed || leg1.printed || leg2.printed
    then
    verdicts_text end s.instrument.name (best_of s.book) (best_of leg1.book) (best_of leg2.book)
    else []
spread_text end s leg1 leg2 = []

abbrev pub legs_text : EventEnd → List (Option Seen) → Seen → InstrumentKind → List ℕ
legs_text end seen s Outright = []
legs_text end seen s (Calendar leg1 leg2) =
    spread_text end (Some s) (seen_of leg1 seen) (seen_of leg2 seen)

abbrev pub audit_text : EventEnd → List (Option Seen) → Option Seen → List ℕ
audit_text end seen None = []
audit_text end seen (Some s) = legs_text end seen s s.instrument.kind

-- the lines of an event end, in listed order: the books of the securities that are printed, and then the spreads
unfoldable pub lines_as : EventEnd → List (Option Seen) → List ℕ
lines_as end seen = flat_map (text_of end) seen ++ flat_map (audit_text end seen) seen
