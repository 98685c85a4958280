-- What becomes of a handle that takes in what came.
use Rattle.std.specs.Prelude.{◌≡◌, ◌⊎◌, ◌==◌, ℕ, true, false, nat_le, if◌then◌else◌, List, [], ◌∷◌, length, Option, None, Some, MatchOption, unwrap_or}
use Rattle.mdp_templates.specs.declared.feed.Feed.{Feed}
use Rattle.mdp_templates.specs.declared.feed.Feed.TheVariants.{A, B, S}
use Rattle.mdp_print.specs.Pieces.{BeginsWith}
use Rattle.mdp_arbiter.specs.Accepted.{closed}
use Rattle.mdp_engine.specs.Engine.{HasBrokenOff, View}
use Rattle.mdp_receiver.specs.Handling.{GoesOn, HasBrokenOffAt, MovesDatagram}
use Rattle.mdp_receiver.specs.declared.moved.Moved.{Moved}
use Rattle.mdp_receiver.specs.declared.taken.Taken.{Taken}
use Rattle.mdp_c.specs.Became.{became_of}
use Rattle.mdp_c.specs.Statuses.{done, is_closed, memory, out_of_range, taken_status, too_long}
use Rattle.mdp_c.specs.declared.became.Became.{Became}

-- Memory ran out: the lines that it holds begin the lines of all events, the further ones among them. Where it had
-- failed before, nothing changes.
pub record Fails (BreaksOff : View → View → Type 0) (old new : View) : Type 0 where
  pub fails : new.has_failed ≡ true
  pub keeps : new.keeps_lines ≡ old.keeps_lines
  pub held : BeginsWith new.held old.held
  pub begins : BreaksOff old new
  pub rests : old.has_failed ≡ true → new ≡ old

-- ---- a datagram

abbrev pub feed_of : ℕ → Option Feed
feed_of number =
    if number == 0 then Some A else if number == 1 then Some B else if number == 2 then Some S else None

-- what a handle or its session holds, and what stands where it is told what became of a datagram
pub record Holding (H : Type 0) : Type 0 where
  pub held : H
  pub became : Became

abbrev pub holding : {H : Type 0} → H → Became → Holding H
holding held became = record { held = held; became = became }

-- it was taken in, or is refused
pub record Takes (feed : Feed) (bytes : List ℕ) (old new : Holding View) (r : ℕ) : Type 0 where
  pub told : Taken × Moved
  pub taken : MovesDatagram feed bytes told old.held new.held
  pub sound : old.held.has_failed ≡ false
  pub became : new.became ≡ unwrap_or (became_of (told.0) (told.1)) old.became
  pub status : r ≡ taken_status (told.0)

-- memory ran out
pub record FailsAt (feed : Feed) (bytes : List ℕ) (old new : Holding View) (r : ℕ) : Type 0 where
  pub fails : Fails (HasBrokenOffAt feed bytes) old.held new.held
  pub became : new.became ≡ old.became
  pub status : r ≡ memory

abbrev pub FeedsSession : Feed → List ℕ → Holding View → Holding View → ℕ → Type 0
FeedsSession feed bytes old new r = Takes feed bytes old new r ⊎ FailsAt feed bytes old new r

-- a handle is open, and this is said of what it holds
abbrev pub IsOpenWith : (View → Type 0) → Option View → Type 0
IsOpenWith says None = ⊥
IsOpenWith says (Some v) = says v

-- nothing changes, and this is answered
abbrev pub Answers : ℕ → Holding (Option View) → Holding (Option View) → ℕ → Type 0
Answers status old new r = (r ≡ status) × (new.held ≡ old.held) × (new.became ≡ old.became)

-- the bytes of a datagram, if it is short enough
abbrev pub short_enough : List ℕ → Option (List ℕ)
short_enough bytes = if nat_le (length bytes) 2048 then Some bytes else None

-- an open handle, by the feed and the datagram
abbrev pub FeedsOpen : Option Feed → Option (List ℕ) → Holding View → Holding (Option View) → ℕ → Type 0
FeedsOpen None bytes old new r = Answers out_of_range (holding (Some old.held) old.became) new r
FeedsOpen (Some feed) None old new r = Answers too_long (holding (Some old.held) old.became) new r
FeedsOpen (Some feed) (Some bytes) old new r =
    IsOpenWith (λ v. FeedsSession feed bytes old (holding v new.became) r) new.held

-- a handle, by whether it is open; and the status
abbrev pub Feeds : ℕ → List ℕ → Holding (Option View) → Holding (Option View) → ℕ → Type 0
Feeds feed bytes old new r = MatchOption old.held (Answers is_closed old new r)
    (λ v. FeedsOpen (feed_of feed) (short_enough bytes) (holding v old.became) new r)

-- ---- the close of the channel

-- it was taken in
pub record TakesClose (old new : View) (r : ℕ) : Type 0 where
  pub goes : GoesOn (closed ∷ []) old new
  pub sound : old.has_failed ≡ false
  pub status : r ≡ done

-- memory ran out
pub record FailsAtClose (old new : View) (r : ℕ) : Type 0 where
  pub fails : Fails (HasBrokenOff (closed ∷ [])) old new
  pub status : r ≡ memory

abbrev pub Closes : Option View → Option View → ℕ → Type 0
Closes None h' r = (r ≡ is_closed) × (h' ≡ None)
Closes (Some v) h' r = IsOpenWith (λ new. TakesClose v new r ⊎ FailsAtClose v new r) h'
