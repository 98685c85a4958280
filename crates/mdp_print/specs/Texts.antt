-- The texts of the lines that are printed: the bytes of each kind of line, each ended by one line feed.
use Rattle.std.specs.Prelude.{ℕ, List, [], ◌∷◌, ◌++◌, Bool, codes, decimal, if◌then◌else◌}
use Rattle.std.specs.List.{flat_map}
use Rattle.mdp_sbe.specs.declared.refusal.Refusal.{Refusal}
use Rattle.mdp_sbe.specs.Refusal.{refusal_number, refusal_name}
use Rattle.mdp_templates.specs.declared.entry.Level.{Level}
use Rattle.mdp_books.specs.Levels.{quote_text, levels_text}
use Rattle.mdp_books.specs.declared.book.Place.{Place}
use Rattle.mdp_books.specs.declared.event_end.EventEnd.{EventEnd}
use Rattle.mdp_quotes.specs.declared.total.Total.{Total}
use Rattle.mdp_quotes.specs.Quotes.{Quotes}
use Rattle.mdp_quotes.specs.declared.verdict.Verdict.{Verdict}
use Rattle.mdp_quotes.specs.declared.verdict.Verdict.TheVariants.{Neither, Missing, Extra, Better, Worse, Equal, EqualLess, EqualMore}
use Rattle.mdp_templates.specs.declared.feed.Feed.{Feed}
use Rattle.mdp_templates.specs.Feed.{feed_letter}

-- the levels of a consolidated side, from the best on
abbrev pub totals_text : List Total → List ℕ
totals_text totals = flat_map (λ total. quote_text total.price total.size) totals

-- where an event ends, with a space behind it: PACKET.MESSAGE and then the space
abbrev pub event_front : EventEnd → List ℕ
event_front end = decimal end.packet ++ codes "." ++ decimal end.message ++ codes " "

-- where an event ends, and whose line it is: PACKET.MESSAGE NAME
abbrev pub event_text : EventEnd → List ℕ → List ℕ
event_text end name = decimal end.packet ++ codes "." ++ decimal end.message ++ codes " " ++ name

-- what the lines of a book have behind their letter: where the event ends, whose book it is, and the letter of bids
abbrev pub head_text : EventEnd → List ℕ → List ℕ
head_text end name = codes " " ++ event_text end name ++ codes " B"

-- the line of two sides under a letter: LETTER PACKET.MESSAGE NAME B BIDS O OFFERS
abbrev pub sides_line : List ℕ → List ℕ → List ℕ → List ℕ → List ℕ
sides_line letter head bids offers = letter ++ head ++ bids ++ codes " O" ++ offers ++ codes "\n"

-- D PACKET.MESSAGE NAME B LEVELS O LEVELS
unfoldable pub direct_line : List ℕ → List Level → List Level → List ℕ
direct_line head bids offers = sides_line (codes "D") head (levels_text bids) (levels_text offers)

-- I PACKET.MESSAGE NAME B LEVELS O LEVELS
unfoldable pub implied_line : List ℕ → List Level → List Level → List ℕ
implied_line head bids offers = sides_line (codes "I") head (levels_text bids) (levels_text offers)

-- C PACKET.MESSAGE NAME B LEVELS O LEVELS
unfoldable pub consolidated_line : List ℕ → List Total → List Total → List ℕ
consolidated_line head bids offers = sides_line (codes "C") head (totals_text bids) (totals_text offers)

-- the line of a book's quotes
abbrev pub quotes_line : List ℕ → Quotes → List ℕ
quotes_line head quotes = consolidated_line head quotes.bids quotes.offers

-- the place of an entry: PACKET.MESSAGE.ENTRY
abbrev pub place_text : Place → List ℕ
place_text place = decimal place.packet ++ codes "." ++ decimal place.message ++ codes "." ++ decimal place.entry

-- F PACKET.MESSAGE NAME PLACE, the place of the book's first impossible entry
unfoldable pub fault_line : EventEnd → List ℕ → Place → List ℕ
fault_line end name place =
    codes "F " ++ event_text end name ++ codes " " ++ place_text place ++ codes "\n"

-- the word for a verdict on a spread's published quote
abbrev pub verdict_text : Verdict → List ℕ
verdict_text Neither = codes "none"
verdict_text Missing = codes "missing"
verdict_text Extra = codes "extra"
verdict_text Better = codes "better"
verdict_text Worse = codes "worse"
verdict_text Equal = codes "equal"
verdict_text EqualLess = codes "equal-less"
verdict_text EqualMore = codes "equal-more"

-- A PACKET.MESSAGE NAME bid VERDICT offer VERDICT
unfoldable pub audit_line : EventEnd → List ℕ → Verdict → Verdict → List ℕ
audit_line end name bid offer =
    codes "A " ++ event_text end name ++ codes " bid " ++ verdict_text bid ++ codes " offer "
    ++ verdict_text offer ++ codes "\n"

-- J OLD NEW, the number of the next packet before and after a jump
unfoldable pub jump_line : ℕ → ℕ → List ℕ
jump_line old new = codes "J " ++ decimal old ++ codes " " ++ decimal new ++ codes "\n"

-- X FEED LINE NUMBER NAME, a datagram at a line of the capture, and why it was refused
unfoldable pub refusal_line : Feed → ℕ → Refusal → List ℕ
refusal_line feed line refusal =
    codes "X " ++ (feed_letter feed ∷ []) ++ codes " " ++ decimal line ++ codes " " ++ decimal (refusal_number refusal)
    ++ codes " " ++ refusal_name refusal ++ codes "\n"

-- Z NEXT STATE, the number of the next packet at the end, and whether that packet is given up
unfoldable pub last_line : ℕ → Bool → List ℕ
last_line next lost =
    codes "Z " ++ decimal next ++ codes " " ++ (if lost then codes "lost" else codes "live") ++ codes "\n"
