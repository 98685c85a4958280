-- A repeating group: a dimension of three bytes, and then the entries (SBE 1.0, repeating groups).
use Rattle.std.specs.Prelude.{◌≡◌, ◌<◌, ◌≤◌, ℕ, zero, suc, ◌*◌, List, [], ◌∷◌, ◌++◌, length, drop, take, slice_index, All}
use Rattle.std.specs.List.{concat}
use Rattle.mdp_sbe.specs.Number.{number_at}
use Rattle.mdp_sbe.specs.Framing.{Parts, IsRoot, IsRefusedRoot}
use Rattle.mdp_sbe.specs.declared.refusal.Refusal.{Refusal}
use Rattle.mdp_sbe.specs.declared.refusal.Refusal.TheVariants as refusals

-- What stands after a root block begins with a group of these entries: the dimension gives the length of each
-- and their number, and each is at least so long as the reader needs.
pub record IsGroup (rest : List ℕ) (least : ℕ) (entries : List (List ℕ)) : Type 0 where
  pub after : List ℕ
  pub long : 3 ≤ length rest
  pub count : length entries ≡ slice_index rest 2
  pub each : All (λ entry. (length entry ≡ number_at 0 2 rest) × (least ≤ length entry)) entries
  pub whole : drop 3 rest ≡ concat entries ++ after

abbrev pub IsRefusedGroup : List ℕ → ℕ → Refusal → Type 0
IsRefusedGroup rest least refusals.GroupCut = length rest < 3
IsRefusedGroup rest least refusals.GroupShort =
    (3 ≤ length rest) × (0 < slice_index rest 2) × (number_at 0 2 rest < least)
IsRefusedGroup rest least refusals.GroupPast =
    (3 ≤ length rest) × (0 < slice_index rest 2 → least ≤ number_at 0 2 rest)
    × (length (drop 3 rest) < slice_index rest 2 * number_at 0 2 rest)
IsRefusedGroup rest least _ = ⊥

-- a root block with a group right behind it
pub record IsGrouped (message : Parts) (least_root least_entry : ℕ) (root : List ℕ)
    (entries : List (List ℕ)) : Type 0 where
  pub rest : List ℕ
  pub block : IsRoot message least_root root rest
  pub group : IsGroup rest least_entry entries

pub data IsRefusedGrouped (message : Parts) (least_root least_entry : ℕ) (r : Refusal) : Type 0 where
  at_root : IsRefusedRoot message least_root r → IsRefusedGrouped message least_root least_entry r
  at_group : (root rest : List ℕ) → IsRoot message least_root root rest → IsRefusedGroup rest least_entry r
      → IsRefusedGrouped message least_root least_entry r

-- so many pieces of one length, one after the other
unfoldable pub pieces : ℕ → ℕ → List ℕ → List (List ℕ)
pieces zero length bytes = []
pieces (suc count) length bytes = take length bytes ∷ pieces count length (drop length bytes)
