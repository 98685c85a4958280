-- Which of several lists that go by slot is the one whose first goes next.
use Rattle.std.specs.Prelude.{◌≡◌, ◌<◌, ℕ, ◌+◌, nat_le, length, get_or, set, Option, Some, None, List, [], ◌∷◌, if◌then◌else◌}
use Rattle.mdp_desks.specs.Reports.{Told}
use Rattle.mdp_reports.specs.Rounds.{all_by_slot}
use Rattle.mdp_reports.specs.Contents.{slot_first}

-- the place of a list, and the slot of its first
abbrev pub Place : Type 0
Place = ℕ × ℕ

-- the one of the lesser slot, of the same slot the earlier list
abbrev pub lesser : ℕ → Option ℕ → Option Place → Option Place
lesser place None least = least
lesser place (Some slot) None = Some (place, slot)
lesser place (Some slot) (Some least) = if nat_le slot least.1 then Some (place, slot) else Some least

-- of lists, the first of which stands at this place
abbrev pub least_of : ℕ → List (List Told) → Option Place
least_of place [] = None
least_of place (ts ∷ rest) = lesser place (slot_first ts) (least_of (place + 1) rest)

-- the first of the list at this place goes next of all
pub record IsNext (left : List (List Told)) (n : ℕ) : Type 0 where
  pub less : n < length left
  pub told : Told
  pub rest : List Told
  pub at : (d : List Told) → get_or left n d ≡ told ∷ rest
  pub next : all_by_slot left ≡ told ∷ all_by_slot (set left n rest)
