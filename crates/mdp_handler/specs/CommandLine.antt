-- The command line: the options of the program, and what words of a command line ask for.
use Rattle.std.specs.Prelude.{◌≡◌, ◌≤◌, ℕ, Bool, true, false, List, [], ◌∷◌, Option, Some, None, IfSome, IsSome, ◌⊎◌, codes, map, pos}
use denote.Ref.{Bor}
use Rattle.std.specs.Option.{option_map}
use Rattle.std.specs.Str.Parse.{IsNumeral, digits_value, without_leading_plus}
use Rattle.clap.specs.Words.{App, Rule, Text, IsAmong, Kinds, fault_of, first_of, matches_of, new_app, new_rule, one_of, with_rule}
use Rattle.clap.specs.declared.builder.action.ArgAction.TheVariants.{SetTrue}
use Rattle.clap.specs.declared.builder.value_parser.ValueParser.{ValueParser}
use Rattle.clap.specs.declared.builder.value_parser.ValueParser.TheVariants.{Signed, String}
use Rattle.clap.specs.declared.error.kind.ErrorKind.{ErrorKind}
use Rattle.clap.specs.declared.error.kind.ErrorKind.TheVariants as kind
use Rattle.mdp_arbiter.specs.declared.start.Start.{Start}
use Rattle.mdp_arbiter.specs.declared.start.Start.TheVariants.{FromOne, Join}
use Rattle.mdp_handler.specs.declared.settings.Settings.{Settings}

-- a number from 1 to `most`
abbrev pub up_to : ℕ → ValueParser
up_to most = Signed (pos 1) (pos most)

-- an option `--NAME VALUE`
abbrev pub option : Text → ValueParser → Rule
option name value = record (new_rule name) {
  long = Some name;
  value_names = 1;
  parser = Some value;
}

-- the same with the value that it has where it is left out
abbrev pub with_default : Text → Rule → Rule
with_default default rule = record rule { defaults = default ∷ [] }

-- an option `--NAME` that stands alone
abbrev pub flag : Text → Rule
flag name = record (new_rule name) { long = Some name; action = Some SetTrue }

-- the program with no option yet, but for `--help` and `--version`
abbrev pub plain : App
plain = let app = new_app (codes "mdp_handler") in record app { top = record app.top { has_version = true } }

-- the program with its options
abbrev pub options : App
options =
    with_rule (with_rule (with_rule (with_rule (with_rule (with_rule plain
    (with_default (codes "1024") (option (codes "window") (up_to 65536))))
    (option (codes "workers") (up_to 16)))
    (flag (codes "in-order")))
    (flag (codes "live")))
    (flag (codes "join")))
    (option (codes "channel") String)

-- the words have options of the program alone, each at most once and with a value in its range
abbrev pub AsksToRun : List Text → Type 0
AsksToRun words = fault_of options words ≡ []

-- what is shown with no fault: the help and the version
abbrev pub shown_kinds : Kinds
shown_kinds = kind.DisplayHelp ∷ kind.DisplayVersion ∷ []

-- the words ask for the help or the version
abbrev pub AsksToShow : List Text → Type 0
AsksToShow words = (asked : ErrorKind) × IsAmong asked shown_kinds × IsAmong asked (fault_of options words)

-- the words have a fault: more than a wish for the help or the version
abbrev pub HasFault : List Text → Type 0
HasFault words = (fault : ErrorKind) × IsAmong fault (fault_of options words) × (¬ (IsAmong fault shown_kinds))

-- the texts of borrowed words
abbrev pub texts_of : List (Bor Text) → List Text
texts_of words = map (λ word. word.now) words

-- the number that is read of an option: that of a text that writes a number from 1 to `most`, and the default where
-- there is no text
abbrev pub IsSetting : Text → ℕ → ℕ → List Text → ℕ → Type 0
IsSetting name most default words n =
    let read = one_of name (matches_of options words) in
    (read ≡ None → n ≡ default)
    × ((text : Text) → read ≡ Some text
    → let digits = without_leading_plus text in
    IsNumeral 10 digits → 1 ≤ digits_value 10 digits → digits_value 10 digits ≤ most → n ≡ digits_value 10 digits)

-- the same of an option that has no default: none where there is no text
abbrev pub IsGiven : Text → ℕ → List Text → Option ℕ → Type 0
IsGiven name most words given =
    let read = one_of name (matches_of options words) in
    (read ≡ None → given ≡ None)
    × ((text : Text) → read ≡ Some text
    → let digits = without_leading_plus text in
    IsNumeral 10 digits → 1 ≤ digits_value 10 digits → digits_value 10 digits ≤ most
    → given ≡ Some (digits_value 10 digits))

-- whether a flag is given
abbrev pub IsFlag : Text → List Text → Bool → Type 0
IsFlag name words given =
    let read = one_of name (matches_of options words) in
    (read ≡ Some (codes "true") → given ≡ true) × (read ≡ Some (codes "false") → given ≡ false)
    × (read ≡ None → given ≡ false)

-- where a run starts that joins a running channel, or doesn't
abbrev pub start_asked : Bool → Start
start_asked true = Join
start_asked false = FromOne

-- a run joins a running channel where the words say so
abbrev pub IsStart : List Text → Start → Type 0
IsStart words start = (joins : Bool) × IsFlag (codes "join") words joins × (start ≡ start_asked joins)

-- the text that is given for an option, if one is
abbrev pub IsText : Text → List Text → Option (Bor Text) → Type 0
IsText name words given = option_map (λ word. word.now) given ≡ first_of name (matches_of options words)

-- the settings are those that the words give
pub record AreSettings (words : List Text) (settings : Settings) : Type 0 where
  pub window : IsSetting (codes "window") 65536 1024 words settings.window
  pub workers : IsGiven (codes "workers") 16 words settings.workers
  pub in_order : IsFlag (codes "in-order") words settings.in_order
  pub live : IsFlag (codes "live") words settings.live
  pub start : IsStart words settings.start
  pub channel : IsText (codes "channel") words settings.channel

-- as many workers as there may be
abbrev pub AreWorkers : ℕ → Type 0
AreWorkers n = (1 ≤ n) × (n ≤ 16)

-- a window that covers 1 to 65536 packet numbers, and 1 to 16 workers, where they are given
pub record AreLawful (settings : Settings) : Type 0 where
  pub some_window : 1 ≤ settings.window
  pub most_window : settings.window ≤ 65536
  pub workers : IfSome settings.workers AreWorkers

-- the words ask for a run that handles its input as it comes
abbrev pub AsksForPieces : List Text → Type 0
AsksForPieces words = IsFlag (codes "live") words true ⊎ IsSome (first_of (codes "channel") (matches_of options words))
