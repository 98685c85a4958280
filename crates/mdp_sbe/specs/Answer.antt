-- What it means that a text has exactly one answer, a value or a refusal.
use Rattle.std.specs.Prelude.{◌≡◌}
use Rattle.mdp_sbe.specs.declared.refusal.Refusal.{Refusal}

-- either there is one value, no other and no refusal, or one refusal, no other and no value
pub data HasOneAnswer {V : Type 0} (IsValue : V → Type 0) (IsRefused : Refusal → Type 0) : Type 0 where
  is_good : (v : V) → IsValue v → ((w : V) → IsValue w → w ≡ v) → ((r : Refusal) → IsRefused r → ⊥)
      → HasOneAnswer IsValue IsRefused
  is_refused : (r : Refusal) → IsRefused r → ((s : Refusal) → IsRefused s → s ≡ r) → ((v : V) → IsValue v → ⊥)
      → HasOneAnswer IsValue IsRefused
