-- The places of calendar spreads and of their legs among the listed securities, and the line that each gives there.
use Rattle.std.specs.Prelude.{◌≡◌, ◌≢◌, ◌<◌, ◌+◌, ℕ, suc, ℤ, List, [], ◌∷◌, slice_get, Option, Some, None, if◌then◌else◌}
use Rattle.std.specs.List.{AllPairs}
use Rattle.std.specs.Option.{option_map}
use Rattle.std.specs.Ordering.{int_eq}
use Rattle.mdp_templates.specs.declared.instrument.Instrument.{Instrument}
use Rattle.mdp_templates.specs.declared.instrument.InstrumentKind.{InstrumentKind}
use Rattle.mdp_templates.specs.declared.instrument.InstrumentKind.TheVariants.{Outright, Calendar}
use Rattle.mdp_templates.specs.Instrument.{ids_of}
use Rattle.mdp_books.specs.declared.event_end.EventEnd.{EventEnd}
use Rattle.mdp_desks.specs.declared.desk.Desk.{Desk}
use Rattle.mdp_desks.specs.Desks.{desk_standing}
use Rattle.mdp_desks.specs.Lines.{Seen, spread_text}
use Rattle.mdp_engine.specs.declared.spreads.Spread.{Spread}

-- the place of a security among ids, from 0, if it stands there
abbrev pub slot_in : List ℤ → ℤ → Option ℕ
slot_in [] id = None
slot_in (x ∷ ids) id = if int_eq x id then Some 0 else option_map (λ n. suc n) (slot_in ids id)

abbrev pub spread_at : ℕ → Option ℕ → Option ℕ → Option Spread
spread_at slot (Some leg1) (Some leg2) = Some (record { slot = slot; leg1 = leg1; leg2 = leg2 })
spread_at slot (Some leg1) None = None
spread_at slot None leg2 = None

-- the places of a calendar spread that stands at this one, if both its legs are listed
abbrev pub spread_in : ℕ → List ℤ → InstrumentKind → Option Spread
spread_in slot ids Outright = None
spread_in slot ids (Calendar leg1 leg2) = spread_at slot (slot_in ids leg1) (slot_in ids leg2)

abbrev pub with_spread : Option Spread → List Spread → List Spread
with_spread None spreads = spreads
with_spread (Some spread) spreads = spread ∷ spreads

-- the calendar spreads among securities that stand from this place on, in listed order
abbrev pub spreads_from : ℕ → List ℤ → List Instrument → List Spread
spreads_from slot ids [] = []
spreads_from slot ids (i ∷ is) = with_spread (spread_in slot ids i.kind) (spreads_from (slot + 1) ids is)

-- the listed ids differ, and these are the places of the calendar spreads among them
pub record AreSpreadsOf (listed : List Instrument) (spreads : List Spread) : Type 0 where
  pub differ : AllPairs (λ a b. a ≢ b) (ids_of listed)
  pub spreads_are : spreads ≡ spreads_from 0 (ids_of listed) listed

-- a spread and its legs stand below a place
pub record IsUnder (count : ℕ) (spread : Spread) : Type 0 where
  pub slot : spread.slot < count
  pub leg1 : spread.leg1 < count
  pub leg2 : spread.leg2 < count

-- what it shows of the desk at a place
abbrev pub seen_there : ℕ → Option Desk → Option Seen
seen_there packet None = None
seen_there packet (Some d) = desk_standing packet d

-- the line of the calendar spread at these places, where an event ends
abbrev pub spread_line : EventEnd → List Desk → Spread → List ℕ
spread_line end desks spread =
    spread_text end (seen_there end.packet (slice_get desks spread.slot))
    (seen_there end.packet (slice_get desks spread.leg1))
    (seen_there end.packet (slice_get desks spread.leg2))
