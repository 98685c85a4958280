-- The rule of a board, and what contracts see of its ends.
use Rattle.std.specs.Prelude.{◌≡◌, ℕ, ◌<◌, ◌≤◌, List, [], ◌∷◌, ◌++◌, length, slice_index_or}
use mathlib.Core.Option.{some}
use mathlib.Core.List.{IsPrefix}
use lib.ListN.{get_elem?}
use Rattle.logbook.specs.Pages.{Book}
use Rattle.mdp_lanes.specs.declared.row.Row.{Row}
use Rattle.mdp_lanes.specs.declared.row.Row.TheVariants.{Never}
use Rattle.mdp_lanes.specs.declared.step.Step.{Step}
use Rattle.mdp_lanes.specs.declared.sheet.Sheet.{Sheet}
use Rattle.mdp_lanes.specs.declared.shown.Known.{Known}
use Rattle.mdp_lanes.specs.declared.update.Update.{Update}
use Rattle.mdp_lanes.specs.Rows.{row_after}
use Rattle.mdp_lanes.specs.Updates.{step_of}

-- a publisher: its board, how many slots that has, and all steps that were published on it
pub record Published : Type 0 where
  pub board : Book
  pub slots : ℕ
  pub steps : List Step

-- the same with one more step
abbrev pub with_step : Published → Step → Published
with_step p step = record p { steps = p.steps ++ step ∷ [] }

-- what a publisher tells: its board, and the steps that were published on it by then
pub record ToldView : Type 0 where
  pub board : Book
  pub steps : List Step

-- a reader: its board, how many slots that has, and the longest front of its steps that this reader has read or was
-- told of
pub record ReaderView : Type 0 where
  pub board : Book
  pub slots : ℕ
  pub front : List Step

-- a reader of this board with so many slots, which has read nothing
abbrev pub IsFreshReader : Book → ℕ → ReaderView → Type 0
IsFreshReader board slots r = (r.board ≡ board) × (r.slots ≡ slots) × (r.front ≡ [])

-- these are the rows of the slots from 0 on
abbrev pub AreRowsAfter : List Row → List Step → Type 0
AreRowsAfter rows steps = (slot : ℕ) → slot < length rows → slice_index_or rows slot Never ≡ row_after slot steps

-- ---- the rule

-- what an end that knows nothing yet knows
abbrev pub newcomer : Known
newcomer = record {
  slots = 0;
  front = record {
    marker = record {};
    book = record { number = 0; log_name = 0; cells_name = 0 };
    names = [];
    log = [];
  };
}

-- an end that knows of so many slots of this board
abbrev pub Knows : Known → Book → ℕ → Type 0
Knows v board slots = (v.front.book ≡ board) × (slots ≤ v.slots)

module _ {A : Type 0} where
  -- a copy has the rows of its steps, which are as many as it says
  abbrev pub IsSheet : Sheet A → Type 0
  IsSheet s = AreRowsAfter s.rows.items s.front.log × (s.length ≡ length s.front.log)

  -- what an end knows is so of this copy: it has the slots, where the end knows of any it shows the same board, and it
  -- goes on from the steps that the end has seen
  abbrev pub FitsSheet : Sheet A → Known → Type 0
  FitsSheet s v =
      (v.slots ≤ length s.rows.items)
      × (0 < v.slots → v.front.book ≡ s.front.book)
      × IsPrefix v.front.log s.front.log

  abbrev pub IsBoard : Sheet A → List Known → Type 0
  IsBoard s views = IsSheet s × ((seat : ℕ) (v : Known) → get_elem? views seat ≡ some v → FitsSheet s v)

  -- what an end knows that has seen this copy
  abbrev pub knower : Sheet A → Known
  knower s = record { slots = length s.rows.items; front = s.front }

  -- an end that takes a step finds a copy that fits what it knew, with as many slots as the one before
  abbrev pub Finds : Known → Sheet A → Sheet A → Known → Type 0
  Finds v before after w =
      (w ≡ knower after)
      × IsSheet after
      × FitsSheet after v
      × (length after.rows.items ≡ length before.rows.items)

  -- an update goes on from what a copy shows
  abbrev pub Continues : Sheet A → Update A → Type 0
  Continues s u =
      (u.front.log ≡ s.front.log ++ step_of u.change ∷ [])
      × (u.front.book ≡ s.front.book)
      × (u.length ≡ length u.front.log)
