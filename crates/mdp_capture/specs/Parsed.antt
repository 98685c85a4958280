-- What the parser of a line has in hand, as definitions see it.
use Rattle.std.specs.Prelude.{ℕ, List, [], Option}
use Rattle.std.specs.Option.{option_map_or}
use denote.Ref.{Bor}
use Rattle.mdp_templates.specs.Instrument.{HasDepth}
use Rattle.mdp_capture.specs.Line.{LineContent, Blank, Listing, Packet, Closing, Skipped, fields}
use Rattle.mdp_capture.specs.declared.line.Line.{Line}
use Rattle.mdp_capture.specs.declared.line.Line.TheVariants as parsed

-- the fields of the text behind a space, none where there was no space
abbrev pub fields_left : Option (Bor (List ℕ)) → List (List ℕ)
fields_left rest = option_map_or (λ text. fields text.now) rest []

-- what a parsed line says
abbrev pub content_of : {A : Type 0} → Line A → LineContent
content_of parsed.Blank = Blank
content_of (parsed.Listing instrument) = Listing instrument
content_of (parsed.Packet feed bytes) = Packet feed bytes.items
content_of (parsed.Shared feed bytes) = Packet feed bytes
content_of parsed.Closing = Closing
content_of (parsed.Skipped skip) = Skipped skip

-- the instrument of a line, if it has one, has a depth of its kind
abbrev pub ListsDepth : LineContent → Type 0
ListsDepth (Listing instrument) = HasDepth instrument
ListsDepth Blank = Unit {0}
ListsDepth (Packet feed bytes) = Unit {0}
ListsDepth Closing = Unit {0}
ListsDepth (Skipped skip) = Unit {0}
