-- The slots of the securities that changed.
use Rattle.std.specs.Prelude.{ℕ, ◌+◌, Bool, true, false, List, [], ◌∷◌, take, length, Option, None, Some}
use Rattle.std.specs.Option.{option_map}
use Rattle.mdp_engine.specs.Engine.{View}
use Rattle.mdp_c.specs.Copies.{copied, room_status}
use Rattle.mdp_c.specs.Statuses.{is_closed}

-- the places of the marks that are set, the first of which has this number
abbrev pub slots_from : ℕ → List Bool → List ℕ
slots_from place [] = []
slots_from place (true ∷ marks) = place ∷ slots_from (place + 1) marks
slots_from place (false ∷ marks) = slots_from (place + 1) marks

-- those that a number of 32 bits can name, which all do: a channel lists 512 securities at most
abbrev pub slots_of : List Bool → List ℕ
slots_of marks = slots_from 0 (take 4294967296 marks)

abbrev pub changed_slots : Option View → Option (List ℕ)
changed_slots h = option_map (λ (v : View). slots_of v.changed) h

abbrev pub slots_status : Option (List ℕ) → ℕ → ℕ
slots_status None room = is_closed
slots_status (Some slots) room = room_status slots room

abbrev pub slots_copied : Option (List ℕ) → List ℕ → List ℕ
slots_copied None array = array
slots_copied (Some slots) array = copied slots array

abbrev pub slots_count : Option (List ℕ) → ℕ → ℕ
slots_count None count = count
slots_count (Some slots) count = length slots
