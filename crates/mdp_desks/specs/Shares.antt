-- The securities of one worker among all: those at its slots.
use Rattle.std.specs.Prelude.{ℕ, ◌+◌, ◌%◌, ◌==◌, Bool, List, [], ◌∷◌, if◌then◌else◌, map}
use Rattle.mdp_arbiter.specs.Machine.{Move}
use Rattle.mdp_arbiter.specs.Machine.Move.{passed, jumped}

-- what stands at the slots that are one's own, of a list that begins at this slot
abbrev pub own_part : {X : Type 0} → (ℕ → Bool) → ℕ → List X → List X
own_part mine slot [] = []
own_part mine slot (x ∷ xs) = if mine slot then x ∷ own_part mine (slot + 1) xs else own_part mine (slot + 1) xs

-- one's own slots
abbrev pub own_slots : {X : Type 0} → (ℕ → Bool) → ℕ → List X → List ℕ
own_slots mine slot [] = []
own_slots mine slot (x ∷ xs) = if mine slot then slot ∷ own_slots mine (slot + 1) xs else own_slots mine (slot + 1) xs

-- worker w of n keeps the slots that are w modulo n
abbrev pub is_kept_by : ℕ → ℕ → ℕ → Bool
is_kept_by n w slot = slot % n == w

-- a move with its own securities' snapshots alone
abbrev pub own_move : (ℕ → Bool) → Move → Move
own_move mine (passed packet) = passed packet
own_move mine (jumped old new snapshots) = jumped old new (own_part mine 0 snapshots)

abbrev pub own_moves : (ℕ → Bool) → List Move → List Move
own_moves mine moves = map (own_move mine) moves
