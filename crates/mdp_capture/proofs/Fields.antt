-- Lines with a field too many, and names as text.
use Rattle.std.proofs.Common.{◌≡◌, ℕ, ◌<◌, true, List, [], ◌∷◌, length, Option, None, Some, Result, Ok, Err, refl, arith, leb, eqb, get_or, lit<, inl, inr}
use Rattle.std.specs.Prelude.{is_ok, is_some, MatchResult, ◌&&◌}
use Rattle.std.specs.List.{list_all, AllPass}
use Rattle.std.specs.Str.{IsUtf8, IsAscii}
use Rattle.std.proofs.lemmas.Bool.{and_parts, leb-true, cases_lt}
use Rattle.std.proofs.lemmas.List.{get_or_past}
use denote.Ref.{Bor}
use Rattle.mdp_capture.specs.Parsed.{fields_left}
use Rattle.std.proofs.lemmas.List.Splits.{length-slice_split}
use Rattle.std.proofs.lemmas.List.Sums.{AllPass-from_list_all}
use Rattle.std.proofs.lemmas.Str.{IsUtf8-from_ascii}
use Rattle.mdp_capture.specs.Line.{Skipped, fields, closing_of, packet_of, outright_of_fields, calendar_of_fields, is_graphic, is_name}
use Rattle.mdp_templates.specs.declared.feed.Feed.{Feed}
use Rattle.mdp_capture.specs.declared.skip.Skip.TheVariants.{LineForm}

-- each text has a first field
pub fields_some : (text : List ℕ) → 0 < length (fields text)
fields_some text = omega (arith, length-slice_split (λ byte. eqb byte 32) text)

pub closing_of_more : (parts : List (List ℕ)) → 0 < length parts → closing_of parts ≡ Skipped LineForm
closing_of_more [] some = absurd (omega arith)
closing_of_more (part ∷ parts) some = refl

pub packet_of_more : (feed : Feed) (digits : List ℕ) (parts : List (List ℕ)) → 0 < length parts → packet_of feed (digits ∷ parts) ≡ Skipped LineForm
packet_of_more feed digits [] some = absurd (omega arith)
packet_of_more feed digits (part ∷ parts) some = refl

pub calendar_of_more : (leg1 leg2 : List ℕ) (parts : List (List ℕ)) → 0 < length parts → calendar_of_fields (leg1 ∷ leg2 ∷ parts) ≡ None
calendar_of_more leg1 leg2 [] some = absurd (omega arith)
calendar_of_more leg1 leg2 (part ∷ parts) some = refl

pub outright_of_more : (depth : List ℕ) (parts : List (List ℕ)) → 0 < length parts → outright_of_fields (depth ∷ parts) ≡ None
outright_of_more depth [] some = absurd (omega arith)
outright_of_more depth (part ∷ parts) some = refl

left_some : (rest : Option (Bor (List ℕ))) → is_some rest ≡ true → 0 < length (fields_left rest)
left_some None is = absurd (cc)
left_some (Some text) is = fields_some text.now

-- one field more than an outright has
pub outright_of_left : (depth : List ℕ) (rest : Option (Bor (List ℕ))) → is_some rest ≡ true → outright_of_fields (depth ∷ fields_left rest) ≡ None
outright_of_left depth rest is = outright_of_more depth (fields_left rest) (left_some rest is)

-- one field more than a spread has
pub calendar_of_left : (leg1 leg2 : List ℕ) (rest : Option (Bor (List ℕ))) → is_some rest ≡ true → calendar_of_fields (leg1 ∷ leg2 ∷ fields_left rest) ≡ None
calendar_of_left leg1 leg2 rest is = calendar_of_more leg1 leg2 (fields_left rest) (left_some rest is)

graphic_low : (byte : ℕ) → is_graphic byte ≡ true → byte < 128
graphic_low byte is = let high = leb-true byte 126 (and_parts (leb 33 byte) (leb byte 126) is).1 in omega arith

all_low : (field : List ℕ) → AllPass is_graphic field → IsAscii field
all_low field pass i = elim (cases_lt i (length field)) [ inl within ↦ graphic_low (get_or field i 0) (pass i 0 within) | inr past ↦ rw (get_or_past field i 0 past) (lit< tt) ]

pub name_is_text : (field : List ℕ) → is_name field ≡ true → IsUtf8 field
name_is_text field is =
    let graphic = (and_parts (leb 1 (length field) && leb (length field) 20) (list_all is_graphic field) is).1 in
    IsUtf8-from_ascii field (all_low field (AllPass-from_list_all is_graphic field graphic))

-- text is read as text
pub text_is_read : {T E : Type 0} (P : T → Type 0) (Q : E → Type 0) (bs : List ℕ) (r : Result T E) → MatchResult r P (λ e. (IsUtf8 bs → ⊥) × Q e) → IsUtf8 bs → is_ok r ≡ true
text_is_read P Q bs (Ok x) h text = refl
text_is_read P Q bs (Err e) h text = absurd (h.0 text)
