-- Moves with all that they bear, as the recovery machine's, and how lists of moves are stored.
use Rattle.std.specs.Prelude.{◌≡◌, ◌⊎◌, ℕ, List, Option, refl}
use Rattle.std.proofs.Common.{inl, inr}
use Rattle.std.specs.Coded.{Coded, code_by, coded×, coded⊎, coded_ℕ, coded_list}
use Rattle.mdp_templates.specs.Packet.{PacketContent}
use Rattle.mdp_templates.specs.Snapshot.{SnapshotContent}
use Rattle.mdp_templates.specs.contracts.snapshot.Snapshot as snapshot
use Rattle.mdp_arbiter.specs.Codes.{packet_code}
use Rattle.mdp_arbiter.specs.Machine.{Move, snapshots_of}
use Rattle.mdp_arbiter.specs.Machine.Move.{passed, jumped}
use Rattle.mdp_arbiter.specs.declared.step.Step.{Step}
use Rattle.mdp_arbiter.specs.declared.step.Step.TheVariants.{Pass, Jump}
use Rattle.mdp_arbiter.specs.declared.owned_move.OwnedMove.{OwnedMove}
use Rattle.mdp_arbiter.specs.declared.owned_move.OwnedMove.TheVariants.{Passed, Jumped}

-- the move without what it bears beside
abbrev pub move_of : {A : Type 0} → OwnedMove A → Move
move_of (Passed packet) = passed packet
move_of (Jumped old new snapshots) = jumped old new snapshots.items

-- the move that an arbiter's step is, where a jump took these snapshots
abbrev pub stepped_move : {A : Type 0} → Step A → List (Option SnapshotContent) → Move
stepped_move (Pass packet) bases = passed packet
stepped_move (Jump old new) bases = jumped old new (snapshots_of bases)

-- a move is stored as its packet, or as its numbers and snapshots
abbrev pub MoveParts : Type 0
MoveParts = PacketContent ⊎ (ℕ × (ℕ × List SnapshotContent))

abbrev pub parts_of : Move → MoveParts
parts_of (passed packet) = inl packet
parts_of (jumped old new snapshots) = inr (old, (new, snapshots))

abbrev pub move_from : MoveParts → Move
move_from (inl packet) = passed packet
move_from (inr parts) = jumped parts.0 parts.1.0 parts.1.1

pub same_move : (move : Move) → move_from (parts_of move) ≡ move
same_move (passed packet) = refl
same_move (jumped old new snapshots) = refl

abbrev pub move_code : Coded Move
move_code =
    code_by MoveParts (coded⊎ packet_code (coded× coded_ℕ (coded× coded_ℕ (coded_list snapshot.the_row.coded))))
    parts_of move_from same_move

abbrev pub moves_code : Coded (List Move)
moves_code = coded_list move_code
