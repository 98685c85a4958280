-- A book message's layout: a root block, and a group whose entries are read one after the other.
use Rattle.std.specs.Prelude.{◌≡◌, ◌⊎◌, ℕ, List, [], ◌∷◌, Result, Ok, Err}
use Rattle.std.specs.List.{AllZip}
use Rattle.mdp_sbe.specs.Framing.{Parts}
use Rattle.mdp_sbe.specs.Group.{IsGrouped, IsRefusedGrouped}
use Rattle.mdp_sbe.specs.declared.refusal.Refusal.{Refusal}

-- the entries that these texts are
abbrev pub AreEntries : {E : Type 0} → (List ℕ → Result E Refusal) → List (List ℕ) → List E → Type 0
AreEntries read texts entries = AllZip (λ text entry. read text ≡ Ok entry) texts entries

-- the first of these texts that is no entry is refused so
abbrev pub AreRefusedEntries : {E : Type 0} → (List ℕ → Result E Refusal) → List (List ℕ) → Refusal → Type 0
AreRefusedEntries read [] r = ⊥
AreRefusedEntries {E} read (text ∷ texts) r =
    (read text ≡ Err r) ⊎ ((entry : E) × (read text ≡ Ok entry) × AreRefusedEntries read texts r)

-- how a template's messages are laid out: what an entry says, and the fewest bytes of a root block and of an entry
pub record Layout (E : Type 0) : Type 0 where
  pub read : List ℕ → Result E Refusal
  pub least_root : ℕ
  pub least_entry : ℕ

abbrev pub layout_of : {E : Type 0} → (List ℕ → Result E Refusal) → ℕ → ℕ → Layout E
layout_of read least_root least_entry = record { read = read; least_root = least_root; least_entry = least_entry }

-- a message has this root block and these entries; both are at least so long as the template's fields
pub record IsLaidOut {E : Type 0} (layout : Layout E) (message : Parts) (root : List ℕ)
    (entries : List E) : Type 0 where
  pub texts : List (List ℕ)
  pub grouped : IsGrouped message layout.least_root layout.least_entry root texts
  pub each : AreEntries layout.read texts entries

-- the first fault of a message that should be laid out so: of its root block and its group, or else of an entry
pub data IsRefusedLayout {E : Type 0} (layout : Layout E) (message : Parts) (r : Refusal) : Type 0 where
  in_blocks : IsRefusedGrouped message layout.least_root layout.least_entry r → IsRefusedLayout layout message r
  in_entry : (root : List ℕ) (texts : List (List ℕ)) → IsGrouped message layout.least_root layout.least_entry root texts
      → AreRefusedEntries layout.read texts r → IsRefusedLayout layout message r
