-- Entries of which a front is listed.
use Rattle.std.proofs.Common.{◌≡◌, ℕ, zero, suc, ◌+◌, ◌-◌, ◌<◌, ◌≤◌, List, [], ◌∷◌, ◌++◌, length, take, drop, get_or, map, Option, Some, None, refl, sym, ap, ◌∙◌, subst, arith, inl, inr, length-drop}
use Rattle.std.specs.Prelude.{slice_get, option_and_then, if◌then◌else◌}
use Rattle.std.specs.Str.Lines.{lines}
use Rattle.std.specs.Option.{option_map, is_none}
use Rattle.std.proofs.lemmas.Bool.{cases_lt}
use Rattle.std.proofs.lemmas.List.{length-map, take_all, take_more, drop-drop}
use Rattle.std.proofs.lemmas.Option.{slice_get_past, slice_get_within, slice_get-map, slice_get-get_or, get_or_from_slice_get}
use Rattle.mdp_templates.specs.declared.instrument.Instrument.{Instrument}
use Rattle.mdp_capture.specs.Capture.{refusal_after}
use Rattle.mdp_capture.specs.Line.{line_of}
use Rattle.mdp_capture.specs.Listed.{answer_after, instrument_said, judgement, listed_after_line}
use Rattle.mdp_capture.specs.declared.fault.CaptureRefusal.{CaptureRefusal}
use Rattle.mdp_session.specs.Listed.{instrument_in}
use Rattle.mdp_session.specs.Listing.{AreListed, Entries, IsFirstUnlisted, entries_of_array, entries_of_text, instruments_in, unlisted_after, unlisted_at, why_in}
use Rattle.mdp_session.specs.declared.list_fault.Unlisted.{Unlisted}
use Rattle.mdp_session.specs.declared.list_fault.Unlisted.TheVariants.{Refused}
use Rattle.mdp_session.specs.declared.listed.Listed.{Listed}

-- the first so many entries are listed, and these are their instruments
pub record ListsFront (entries : Entries) (count : ℕ) (listed : List Instrument) : Type 0 where
  pub are : listed ≡ instruments_in (take count entries)
  pub each : (place : ℕ) → place < count → unlisted_at entries place ≡ None

-- what two lists of entries say
both_say : (front back : Entries) → instruments_in (front ++ back) ≡ instruments_in front ++ instruments_in back
both_say [] back = refl
both_say (None ∷ front) back = both_say front back
both_say (Some instrument ∷ front) back = ap (λ (is : List Instrument). instrument ∷ is) (both_say front back)

-- what nothing keeps out stands behind the others
not_refused : (refusal : Option CaptureRefusal) (with without : List Instrument) → option_map Refused refusal ≡ None → (if is_none refusal then with else without) ≡ with
not_refused None with without none = refl
not_refused (Some refusal) with without none = absurd (cc)

goes_behind : (listed : List Instrument) (entry : Option Instrument) → unlisted_after listed entry ≡ None → listed_after_line listed entry ≡ listed ++ instruments_in (entry ∷ [])
goes_behind listed None none = absurd (cc)
goes_behind listed (Some instrument) none = not_refused (refusal_after listed instrument) (listed ++ instrument ∷ []) listed none

-- why the next entry isn't listed
at_next : (entries : Entries) (count : ℕ) (listed : List Instrument) (entry : Option Instrument) → slice_get entries count ≡ Some entry → listed ≡ instruments_in (take count entries)
    → unlisted_at entries count ≡ unlisted_after listed entry
at_next entries count listed entry there are =
    ap (option_and_then (unlisted_after (instruments_in (take count entries)))) there ∙ ap (λ (is : List Instrument). unlisted_after is entry) (sym are)

-- one entry more
pub lists_more : (entries : Entries) (count : ℕ) (listed : List Instrument) (entry : Option Instrument) → slice_get entries count ≡ Some entry → unlisted_after listed entry ≡ None
    → ListsFront entries count listed → ListsFront entries (count + 1) (listed_after_line listed entry)
lists_more entries count listed entry there none front = record {
  are =
      let within : count < length entries = slice_get_within entries count entry there in
      let more : take (count + 1) entries ≡ take count entries ++ entry ∷ [] = take_more entries count entry within ∙ ap (λ (e : Option Instrument). take count entries ++ e ∷ []) (get_or_from_slice_get entries count entry entry there) in
      goes_behind listed entry none ∙ ap (λ (is : List Instrument). is ++ instruments_in (entry ∷ [])) front.are ∙ sym (both_say (take count entries) (entry ∷ [])) ∙ sym (ap instruments_in more);
  each = λ place below. elim (cases_lt place count) [
    | inl earlier ↦ front.each place earlier
    | inr last ↦ let same : count ≡ place = omega (arith, below, last) in subst (λ (n : ℕ). unlisted_at entries n ≡ None) same (at_next entries count listed entry there front.are ∙ none)
  ];
}

-- no entry left
pub lists_all : (entries : Entries) (count : ℕ) (listed : List Instrument) → length entries ≤ count → ListsFront entries count listed → AreListed entries listed
lists_all entries count listed past front = record {
  all = front.are ∙ ap instruments_in (take_all count entries past);
  each = λ place. elim (cases_lt place count) [
    | inl earlier ↦ front.each place earlier
    | inr later ↦ ap (option_and_then (unlisted_after (instruments_in (take place entries)))) (slice_get_past entries place (omega (arith, past, later)))
  ];
}

-- the next entry isn't listed
pub stops_there : (entries : Entries) (count : ℕ) (listed : List Instrument) (entry : Option Instrument) (why : Unlisted) → slice_get entries count ≡ Some entry → unlisted_after listed entry ≡ Some why
    → ListsFront entries count listed → IsFirstUnlisted entries count why
stops_there entries count listed entry why there is front = record { why_is = at_next entries count listed entry there front.are ∙ is; before = front.each }

-- ---- the entries that are left

-- the next of those that are left
pub next_left : (entries more : Entries) (count : ℕ) (entry : Option Instrument) → drop count entries ≡ entry ∷ more → slice_get entries count ≡ Some entry
next_left [] more zero entry left = absurd (cc)
next_left [] more (suc count) entry left = absurd (cc)
next_left (e ∷ entries) more zero entry left = cc
next_left (e ∷ entries) more (suc count) entry left = next_left entries more count entry left

-- and those behind it
pub behind_left : (entries more : Entries) (count : ℕ) (entry : Option Instrument) → drop count entries ≡ entry ∷ more → drop (count + 1) entries ≡ more
behind_left entries more count entry left = sym (drop-drop 1 count entries) ∙ ap (drop 1) left

-- none is left
pub none_left : (entries : Entries) (count : ℕ) → drop count entries ≡ [] → length entries ≤ count
none_left entries count left = let none : length entries - count ≡ 0 = sym (length-drop count entries) ∙ ap length left in omega (arith, none)

-- why a line isn't listed, by what is answered to it
answered : (refusal : Option CaptureRefusal) → why_in (judgement refusal) ≡ option_map Refused refusal
answered None = refl
answered (Some refusal) = refl

pub line_answered : (listed : List Instrument) (entry : Option Instrument) → why_in (answer_after listed entry) ≡ unlisted_after listed entry
line_answered listed None = refl
line_answered listed (Some instrument) = answered (refusal_after listed instrument)

-- ---- the entries of an array, and of a text

pub array_there : (listed : List Listed) (place : ℕ) (d : Listed) → place < length listed → slice_get (entries_of_array listed) place ≡ Some (instrument_in (get_or listed place d))
array_there listed place d within = slice_get-map instrument_in listed place ∙ ap (option_map instrument_in) (slice_get-get_or listed place d within)

pub array_past : (listed : List Listed) (place : ℕ) → length listed ≤ place → length (entries_of_array listed) ≤ place
array_past listed place past = omega (arith, length-map listed instrument_in, past)

-- the first line of what is left of a text
pub line_left : (text rest : List ℕ) (before few end : ℕ) → drop before (entries_of_text text) ≡ entries_of_text rest → lines rest ≡ take few rest ∷ lines (drop end rest)
    → drop before (entries_of_text text) ≡ instrument_said (line_of (take few rest)) ∷ entries_of_text (drop end rest)
line_left text rest before few end left line = left ∙ ap (λ (ls : List (List ℕ)). map (λ (l : List ℕ). instrument_said (line_of l)) ls) line
