-- The room that a batch's reports are made with, reckoned from the batches before.
use Rattle.std.specs.Prelude.{◌+◌, ◌-◌, ◌*◌, ◌/◌, ◌≤◌, ◌==◌, if◌then◌else◌, ℕ, min}
use Rattle.mdp_reports.specs.declared.reports.Room.{Room}
use Rattle.mdp_reports.specs.declared.room.RecentRoom.{RecentRoom}

-- a number, or the greatest of 64 bits where it is greater
abbrev pub up_to_most : ℕ → ℕ
up_to_most n = min n 18446744073709551615

-- what falls to so many moves of a number that is of `all` moves
abbrev pub portion_of : ℕ → ℕ → ℕ → ℕ
portion_of number moves all = up_to_most (number * moves) / all

-- three quarters of a number, and another one
abbrev pub three_quarters_and : ℕ → ℕ → ℕ
three_quarters_and number more = up_to_most (number - number / 4 + more)

-- room for nothing
abbrev pub no_room : Room
no_room = record { bytes = 0; rows = 0; places = 0 }

-- what is known before any batch
abbrev pub before_batches : RecentRoom
before_batches = record { room = no_room; moves = 0 }

-- of how many moves a batch gets the room: of its own and a quarter more, but at most of half of those before
abbrev pub moves_with_more : ℕ → ℕ → ℕ
moves_with_more moves all = min (up_to_most (moves + moves / 4)) (all / 2)

-- what the last batches needed for so many of their moves
abbrev pub room_of_moves : ℕ → RecentRoom → Room
room_of_moves moves recent = record {
  bytes = portion_of recent.room.bytes moves recent.moves;
  rows = portion_of recent.room.rows moves recent.moves;
  places = portion_of recent.room.places moves recent.moves;
}

-- the room for a batch of so many moves; none where no move was counted
abbrev pub room_for_batch : ℕ → RecentRoom → Room
room_for_batch moves recent =
    if recent.moves == 0 then no_room else room_of_moves (moves_with_more moves recent.moves) recent

-- the sums with one batch more, of so many moves, whose reports held this much
abbrev pub with_batch : ℕ → Room → RecentRoom → RecentRoom
with_batch moves room recent = record {
  room = record {
    bytes = three_quarters_and recent.room.bytes room.bytes;
    rows = three_quarters_and recent.room.rows room.rows;
    places = three_quarters_and recent.room.places room.places;
  };
  moves = three_quarters_and recent.moves moves;
}

-- each part of the room is at most half of its sum
abbrev pub IsAtMostHalf : Room → RecentRoom → Type 0
IsAtMostHalf room recent =
    (2 * room.bytes ≤ recent.room.bytes)
    × ((2 * room.rows ≤ recent.room.rows) × (2 * room.places ≤ recent.room.places))
