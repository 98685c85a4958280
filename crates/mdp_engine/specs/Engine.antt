-- What an engine holds, and what that says of the events that came and the moments that were let go.
use Rattle.std.specs.Prelude.{◌≡◌, ℕ, ◌-◌, ◌++◌, Bool, true, false, List, Result, max, take, refl, IsErr, OnErr, OnOk}
use Rattle.std.specs.List.{AllZip}
use Rattle.std.specs.Coded.{Coded, code_by, coded×, coded_ℕ, coded_bool, coded_list}
use Rattle.mdp_templates.specs.Packet.{PacketContent}
use Rattle.mdp_templates.specs.declared.instrument.Instrument.{Instrument}
use Rattle.mdp_books.specs.Feed.{sent_by, book_at, behind}
use Rattle.mdp_print.specs.Pieces.{BeginsWith}
use Rattle.mdp_arbiter.specs.Accepted.{Event}
use Rattle.mdp_arbiter.specs.Machine.{Move, Settles, after_all, settle, trace, state_at}
use Rattle.mdp_templates.specs.Instrument.{ids_of}
use Rattle.mdp_arbiter.specs.Arbiter.{View as ArbiterView, state}
use Rattle.mdp_arbiter.specs.Codes.{view_code as arbiter_code}
use Rattle.mdp_arbiter.specs.Standing.{StandsAt}
use Rattle.mdp_desks.specs.declared.desk.Desk.{Desk}
use Rattle.mdp_desks.specs.contracts.desk.Desk as desk
use Rattle.mdp_engine.specs.Owed.{owed_moments, numbered_moves}
use Rattle.mdp_desks.specs.Due.{is_due}
use Rattle.mdp_desks.specs.Changed.{changed_in}
use Rattle.mdp_desks.specs.Moments.{Moment, moments}
use Rattle.mdp_desks.specs.Shown.{Footing, since_after}
use Rattle.mdp_desks.specs.Shows.{Shows}
use Rattle.mdp_engine.specs.Honest.{IsHonest}
use Rattle.mdp_engine.specs.Kept.{kept_lines}

-- an engine as contracts see it: its arbiter, its desks, the lines that it holds, a mark for each listed security whose
-- book was printed since these were let go last, whether it keeps lines at all, and whether memory ran out
pub record View : Type 0 where
  pub arbiter : ArbiterView
  pub desks : List Desk
  pub held : List ℕ
  pub changed : List Bool
  pub keeps_lines : Bool
  pub has_failed : Bool

-- it is stored as the tuple of its fields
abbrev pub view_code : Coded View
view_code =
    code_by (ArbiterView × (List Desk × (List ℕ × (List Bool × (Bool × Bool)))))
    (coded× arbiter_code (coded× (coded_list desk.the_row.coded) (coded× (coded_list coded_ℕ)
    (coded× (coded_list coded_bool) (coded× coded_bool coded_bool)))))
    (λ v. (v.arbiter, (v.desks, (v.held, (v.changed, (v.keeps_lines, v.has_failed))))))
    (λ t. record {
      arbiter = t.0;
      desks = t.1.0;
      held = t.1.1.0;
      changed = t.1.1.1.0;
      keeps_lines = t.1.1.1.1.0;
      has_failed = t.1.1.1.1.1;
    })
    (λ _. refl)

-- its arbiter stands at the events and has made all their moves
pub record IsSettled (listed : List Instrument) (es : List Event) (v : ArbiterView) : Type 0 where
  pub stands : StandsAt es v
  pub ids : v.channel.ids ≡ ids_of listed
  pub state : state v ≡ state_at v.channel es

-- of these moments it holds the lines, where it keeps any, and whose books they print
pub record Holds (listed : List Instrument) (moments : List Moment) (v : View) : Type 0 where
  pub lines_are : v.held ≡ kept_lines v.keeps_lines moments
  pub changed_are : v.changed ≡ changed_in listed moments

-- An engine stands at these events: its desks are what the moves show. Of the moments that they show these were let go,
-- and it holds the others.
pub record Stands (listed : List Instrument) (es : List Event) (gone : List Moment) (v : View) : Type 0 where
  pub settled : IsSettled listed es v.arbiter
  pub others : List Moment
  pub shows : Shows listed (trace v.arbiter.channel es) v.desks (gone ++ others)
  pub holds : Holds listed others v

-- of all moments these were let go, and the marks are those of the securities whose books the others print
abbrev pub AreChanged : List Instrument → List Moment → List Moment → List Bool → Type 0
AreChanged listed all gone marks =
    (others : List Moment) × (all ≡ gone ++ others) × (marks ≡ changed_in listed others)

-- Memory ran out at these further events: wherever the engine stood before, and whatever moments were let go, their
-- lines and what the engine now holds begin the lines of the moments that the moves of all events show.
abbrev pub HasBrokenOff : List Event → View → View → Type 0
HasBrokenOff further old new =
    (listed : List Instrument) (es : List Event) (gone : List Moment) → Stands listed es gone old
    → BeginsWith (kept_lines old.keeps_lines (moments listed (trace old.arbiter.channel (es ++ further))))
    (kept_lines old.keeps_lines gone ++ new.held)

-- What each call keeps to that takes events in, whatever else it says of them. It has failed where it answers an error,
-- and what it holds then begins the lines of these events. The channel stays, and so does whether lines are kept; what
-- was held stays in front. Once it has failed it answers an error, and nothing changes.
pub record TakesIn {T E : Type 0} (further : List Event) (result : Result T E) (old new : View) : Type 0 where
  pub channel : OnOk result (new.arbiter.channel ≡ old.arbiter.channel)
  pub sound : OnOk result (new.has_failed ≡ false)
  pub fails : OnErr result (new.has_failed ≡ true)
  pub begins : OnErr result (HasBrokenOff further old new)
  pub keeps : new.keeps_lines ≡ old.keeps_lines
  pub front : BeginsWith new.held old.held
  pub stays : old.has_failed ≡ true → IsErr result
  pub rests : old.has_failed ≡ true → new ≡ old

-- ---- under a complete feed that the events agree with

-- the lines so far, where lines are kept, are those of the moments that the feed owes
abbrev pub LawOfOwedText : Type 0
LawOfOwedText =
    (listed : List Instrument) (feed : List PacketContent) (es : List Event) (gone : List Moment) (v : View)
    → IsHonest listed feed es → Stands listed es gone v
    → kept_lines v.keeps_lines gone ++ v.held
    ≡ kept_lines v.keeps_lines (owed_moments listed feed (numbered_moves (trace v.arbiter.channel es)))

-- A desk has its security's book of the complete feed right before packet `next`, or right after its base where that is
-- later, and is marked if the security is due.
pub record HoldsBook (feed : List PacketContent) (next : ℕ) (i : Footing) (desk : Desk) : Type 0 where
  pub instrument : desk.instrument ≡ i.instrument
  pub base : desk.base ≡ i.base
  pub book : desk.book ≡ book_at i.instrument (sent_by (take (max (next - 1) i.base) feed))
  pub marked : desk.marked ≡ is_due i.instrument.id i.jumped (behind i.base (sent_by (take (next - 1) feed)))

-- and so has each desk of the listed securities, after the moves of the events
abbrev pub LawOfOwedBooks : Type 0
LawOfOwedBooks =
    (listed : List Instrument) (feed : List PacketContent) (es : List Event) (gone : List Moment) (v : View)
    → IsHonest listed feed es
    → Stands listed es gone v → AllZip (HoldsBook feed v.arbiter.next)
    (since_after listed (trace v.arbiter.channel es)).footings v.desks

-- ---- moves one after another

-- an engine has taken in these events and shown these moves, and may make more
pub record IsUnderWay (listed : List Instrument) (es : List Event) (moves : List Move) (gone : List Moment)
    (v : View) : Type 0 where
  pub stands : StandsAt es v.arbiter
  pub ids : v.arbiter.channel.ids ≡ ids_of listed
  pub others : List Moment
  pub shows : Shows listed moves v.desks (gone ++ others)
  pub holds : Holds listed others v

-- from one arbiter's view to another the moves that are possible were made, until none is: these
pub record HasMoved (es : List Event) (old new : ArbiterView) (made : List Move) : Type 0 where
  pub settles : Settles old.channel es (state old) made
  pub state : state new ≡ after_all (state old) made

-- from one view to another the moves that are possible were made, and shown
abbrev pub Advances : View → View → Type 0
Advances old new =
    (listed : List Instrument) (es : List Event) (moves : List Move) (gone : List Moment)
    → IsUnderWay listed es moves gone old
    → (made : List Move) × HasMoved es old.arbiter new.arbiter made
    × IsUnderWay listed es (moves ++ made) gone new

-- Memory ran out on the way: whatever moves had been shown, the lines of the moments that were let go and what it holds
-- begin the lines of these and of all moves that are then possible.
abbrev pub BreaksOffOnWay : View → View → Type 0
BreaksOffOnWay old new =
    (listed : List Instrument) (es : List Event) (moves : List Move) (gone : List Moment)
    → IsUnderWay listed es moves gone old
    → BeginsWith (kept_lines old.keeps_lines
    (moments listed (moves ++ settle old.arbiter.channel es (state old.arbiter))))
    (kept_lines old.keeps_lines gone ++ new.held)
