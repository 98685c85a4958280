-- What stands beside the desks: the ids of their securities, and their marks.
use Rattle.std.specs.Prelude.{◌≡◌, ◌≢◌, ◌<◌, ◌≤◌, ℕ, ℤ, Bool, true, false, ◌==◌, ◌&&◌, nat_lt, List, map, length, get_or, All}
use Rattle.std.specs.List.{AllPairs}
use Rattle.mdp_templates.specs.declared.instrument.Instrument.{Instrument}
use Rattle.mdp_templates.specs.Instrument.{HasDepth, ids_of}
use Rattle.mdp_desks.specs.declared.desk.Desk.{Desk}

-- the listed securities, whose desks these are
abbrev pub listed_in : List Desk → List Instrument
listed_in desks = map (λ (d : Desk). d.instrument) desks

-- the marks of the desks
abbrev pub marks_of : List Desk → List Bool
marks_of desks = map (λ (d : Desk). d.marked) desks

-- the marks that bytes stand for: one is set where the byte is 1
abbrev pub marks_in : List ℕ → List Bool
marks_in bytes = map (λ (b : ℕ). b == 1) bytes

-- no mark is set from `low` on and below `high`
abbrev pub AreClear : ℕ → ℕ → List Bool → Type 0
AreClear low high marks = (n : ℕ) → low ≤ n → n < high → get_or marks n false ≡ false

-- of the marks from `low` on and below `high`, the first that is set stands at place `n`
pub record IsFirstSet (low high n : ℕ) (marks : List Bool) : Type 0 where
  pub behind : low ≤ n
  pub inside : n < high
  pub is_set : get_or marks n false ≡ true
  pub before : AreClear low n marks

-- every mark that is set stands from `low` on and below `high`, and if there is a place between them, `low`'s is set
pub record AreWithin (low high : ℕ) (marks : List Bool) : Type 0 where
  pub short : high ≤ length marks
  pub first : low < high → get_or marks low false ≡ true
  pub before : (n : ℕ) → n < low → get_or marks n false ≡ false
  pub behind : (n : ℕ) → high ≤ n → get_or marks n false ≡ false

-- the ids stand in listed order and all differ, and so do the marks beside them; each book has a depth of its kind
pub record AreBeside (desks : List Desk) (ids : List ℤ) (marks : List Bool) : Type 0 where
  pub same : ids ≡ ids_of (listed_in desks)
  pub differ : AllPairs (λ a b. a ≢ b) ids
  pub marks_are : marks ≡ marks_of desks
  pub depths : All HasDepth (listed_in desks)

-- whether an event end in this packet has lines of the desk: it is marked, and the packet stands behind its base
abbrev pub is_due_at : ℕ → Desk → Bool
is_due_at packet d = d.marked && nat_lt d.base packet

-- the desks of which it has lines
abbrev pub all_due_at : ℕ → List Desk → List Bool
all_due_at packet desks = map (is_due_at packet) desks

-- where one of these marks is set, so is the other one there
abbrev pub AreAmong : List Bool → List Bool → Type 0
AreAmong marks others = (n : ℕ) → get_or marks n false ≡ true → get_or others n false ≡ true

-- a mark for each desk: only a marked one's is set, and that of each of which an event end in this packet has lines
pub record AreDueAt (packet : ℕ) (marks : List Bool) (desks : List Desk) : Type 0 where
  pub many : length marks ≡ length desks
  pub only : AreAmong marks (marks_of desks)
  pub all : AreAmong (all_due_at packet desks) marks

-- these will do at each packet before this one, and where there is none before it, no mark is set
pub record AreDueBefore (until : ℕ) (marks : List Bool) (desks : List Desk) : Type 0 where
  pub many : length marks ≡ length desks
  pub due : (k : ℕ) → k < until → AreDueAt k marks desks
  pub none : until ≡ 0 → AreClear 0 (length marks) marks
