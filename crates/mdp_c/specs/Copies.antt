-- What is copied into an array: all of it, or nothing.
use Rattle.std.specs.Prelude.{ℕ, nat_le, if◌then◌else◌, List, ◌++◌, drop, length}
use Rattle.mdp_c.specs.Statuses.{done, too_short}

-- these stand in front, where there is room for all
abbrev pub copied : {X : Type 0} → List X → List X → List X
copied items array = if nat_le (length items) (length array) then items ++ drop (length items) array else array

abbrev pub room_status : {X : Type 0} → List X → ℕ → ℕ
room_status items room = if nat_le (length items) room then done else too_short
