-- What went out, as text and on a board.
use Rattle.std.specs.Prelude.{ℕ, List, Option}
use Rattle.mdp_lanes.specs.Boards.{Published}

-- the bytes that a writer took, and the board, if there is one
pub record Outlet : Type 0 where
  pub taken : List ℕ
  pub board : Option Published

abbrev pub out : List ℕ → Option Published → Outlet
out taken board = record { taken = taken; board = board }
