-- What the desks stand for, after the moves so far.
use Rattle.std.specs.Prelude.{◌≡◌, List, map}
use Rattle.std.specs.List.{AllZip}
use Rattle.mdp_templates.specs.declared.instrument.Instrument.{Instrument}
use Rattle.mdp_books.specs.Feed.{Sent, behind}
use Rattle.mdp_desks.specs.declared.desk.Desk.{Desk}
use Rattle.mdp_arbiter.specs.Machine.{Move}
use Rattle.mdp_desks.specs.Shown.{Footing, since_after, book_since}
use Rattle.mdp_desks.specs.Moments.{Moment, moments}
use Rattle.mdp_desks.specs.Due.{is_due}

-- a desk stands where the moves show it
pub record DeskShows (since : List Sent) (i : Footing) (desk : Desk) : Type 0 where
  pub instrument : desk.instrument ≡ i.instrument
  pub base : desk.base ≡ i.base
  pub book : desk.book ≡ book_since i since
  pub marked : desk.marked ≡ is_due i.instrument.id i.jumped (behind i.base since)

-- the desks after these moves, and the moments that these show
pub record Shows (listed : List Instrument) (moves : List Move) (desks : List Desk) (shown : List Moment) : Type 0 where
  pub listed_are : map (λ (d : Desk). d.instrument) desks ≡ listed
  pub each : AllZip (DeskShows (since_after listed moves).since) (since_after listed moves).footings desks
  pub shown_is : shown ≡ moments listed moves
