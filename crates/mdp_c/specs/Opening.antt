-- What becomes of a handle that is to be opened.
use Rattle.std.specs.Prelude.{◌≡◌, ◌⊎◌, ℕ, ◌+◌, false, List, [], ◌∷◌, Option, None, Some}
use Rattle.mdp_templates.specs.declared.instrument.Instrument.{Instrument}
use Rattle.mdp_engine.specs.Engine.{View}
use Rattle.mdp_receiver.specs.Handling.{Handles}
use Rattle.mdp_session.specs.Listing.{AreListed, Entries, IsFirstUnlisted, entries_of_array, entries_of_text}
use Rattle.mdp_session.specs.declared.list_fault.Unlisted.{Unlisted}
use Rattle.mdp_session.specs.declared.listed.Listed.{Listed}
use Rattle.mdp_c.specs.Options.{plan_of}
use Rattle.mdp_c.specs.Statuses.{done, is_open, memory, no_listing, none_listed, out_of_range, unlisted_status}
use Rattle.mdp_c.specs.declared.options.Options.{Options}
use Rattle.mdp_c.specs.declared.options.Plan.{Plan}

-- what is listed: its entries, the number of the first, and the status of one that says no instrument
pub record Listing : Type 0 where
  pub entries : Entries
  pub first : ℕ
  pub no_instrument : ℕ

abbrev pub of_array : List Listed → Listing
of_array listed = record { entries = entries_of_array listed; first = 0; no_instrument = out_of_range }

abbrev pub of_text : List ℕ → Listing
of_text text = record { entries = entries_of_text text; first = 1; no_instrument = no_listing }

-- a session of these instruments that has taken nothing
pub record Starts (plan : Plan) (listed : List Instrument) (v : View) : Type 0 where
  pub handles : Handles (record { listed = listed; room = plan.window; start = plan.start }) [] [] v
  pub sound : v.has_failed ≡ false
  pub empty : v.held ≡ []
  pub keeps : v.keeps_lines ≡ plan.keeps_lines

-- with these instruments the handle is opened, if there are any and memory suffices
abbrev pub HasBegun : Plan → List Instrument → Option View → ℕ → Type 0
HasBegun plan listed (Some v) r = Starts plan listed v × (r ≡ done)
HasBegun plan listed None r = r ≡ memory

abbrev pub Begins : Plan → List Instrument → Option View → ℕ → Type 0
Begins plan [] h' r = (r ≡ none_listed) × (h' ≡ None)
Begins plan (first ∷ more) h' r = HasBegun plan (first ∷ more) h' r

-- what a handle holds after a call that opens it, the number that is told then, and the status
pub record Opened : Type 0 where
  pub held : Option View
  pub number : ℕ
  pub status : ℕ

abbrev pub opened : Option View → ℕ → ℕ → Opened
opened held number status = record { held = held; number = number; status = status }

-- all entries are listed
pub record OpensAll (plan : Plan) (listing : Listing) (n : ℕ) (o : Opened) : Type 0 where
  pub instruments : List Instrument
  pub listed : AreListed listing.entries instruments
  pub begins : Begins plan instruments o.held o.status
  pub number : o.number ≡ n

-- one is the first that isn't listed
pub record StopsAtOne (listing : Listing) (o : Opened) : Type 0 where
  pub place : ℕ
  pub why : Unlisted
  pub unlisted : IsFirstUnlisted listing.entries place why
  pub number : o.number ≡ listing.first + place
  pub status : o.status ≡ unlisted_status listing.no_instrument why
  pub closed : o.held ≡ None

-- memory ran out before all entries were looked at
pub record RunsShort (n : ℕ) (o : Opened) : Type 0 where
  pub status : o.status ≡ memory
  pub closed : o.held ≡ None
  pub number : o.number ≡ n

-- a closed handle, by what the options say
abbrev pub OpensBy : Option Plan → Listing → ℕ → Opened → Type 0
OpensBy None listing n o = (o.status ≡ out_of_range) × (o.held ≡ None) × (o.number ≡ n)
OpensBy (Some plan) listing n o = OpensAll plan listing n o ⊎ (StopsAtOne listing o ⊎ RunsShort n o)

-- What a handle holds before, what stands before where a number is told, and what they are after. An open handle stays
-- as it is.
abbrev pub Opens : Listing → Options → Option View → ℕ → Opened → Type 0
Opens listing options (Some v) n o = (o.status ≡ is_open) × (o.held ≡ Some v) × (o.number ≡ n)
Opens listing options None n o = OpensBy (plan_of options) listing n o
