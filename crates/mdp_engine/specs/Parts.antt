-- The calendar spreads that each listed security is part of, and which of them an event end need not look at.
use Rattle.std.specs.Prelude.{◌≡◌, ◌<◌, ◌++◌, ℕ, Bool, true, false, List, [], ◌∷◌, Vec, map, set, length, get_or}
use Rattle.std.specs.List.{Contains}
use Rattle.mdp_templates.specs.declared.instrument.Instrument.{Instrument}
use Rattle.mdp_engine.specs.declared.spreads.Spread.{Spread}
use Rattle.mdp_engine.specs.Spreads.{AreSpreadsOf}

-- the numbers that each list holds
abbrev pub lists_in : {Z : Type 0} → List (Vec ℕ Z) → List (List ℕ)
lists_in lists = map (λ v. v.items) lists

-- the security at a place is noted as part of spread `n`
abbrev pub IsPart : List (List ℕ) → ℕ → ℕ → Type 0
IsPart parts slot n = Contains (get_or parts slot []) n

-- the lists with spread `n` noted at one place more
abbrev pub with_part : ℕ → ℕ → List (List ℕ) → List (List ℕ)
with_part slot n parts = set parts slot (get_or parts slot [] ++ n ∷ [])

-- and at the three places of a spread
abbrev pub with_parts : ℕ → Spread → List (List ℕ) → List (List ℕ)
with_parts n spread parts = with_part spread.leg2 n (with_part spread.leg1 n (with_part spread.slot n parts))

-- the security of a spread and its legs are noted as parts of it
pub record IsNoted (parts : List (List ℕ)) (n : ℕ) (spread : Spread) : Type 0 where
  pub slot : IsPart parts spread.slot n
  pub leg1 : IsPart parts spread.leg1 n
  pub leg2 : IsPart parts spread.leg2 n

-- for each of `count` securities, which of the first `most` spreads it is part of
pub record AreParts (count most : ℕ) (spreads : List Spread) (parts : List (List ℕ)) : Type 0 where
  pub long : length parts ≡ count
  pub within : (slot n : ℕ) → IsPart parts slot n → n < most
  pub noted : (n : ℕ) (d : Spread) → n < most → IsNoted parts n (get_or spreads n d)

-- where a security is marked, so is each spread that it is part of
abbrev pub AreDue : List Bool → List (List ℕ) → List Bool → Type 0
AreDue marks parts due = (slot n : ℕ) → get_or marks slot false ≡ true → IsPart parts slot n → get_or due n false ≡ true

-- neither a spread's security nor a leg of it is marked
pub record IsQuiet (marks : List Bool) (spread : Spread) : Type 0 where
  pub slot : get_or marks spread.slot false ≡ false
  pub leg1 : get_or marks spread.leg1 false ≡ false
  pub leg2 : get_or marks spread.leg2 false ≡ false

-- of the spreads that are not marked, all are quiet
abbrev pub AreQuiet : List Bool → List Spread → List Bool → Type 0
AreQuiet marks spreads due =
    (n : ℕ) (d : Spread) → n < length spreads → get_or due n false ≡ false → IsQuiet marks (get_or spreads n d)

-- of the spreads that are not marked, none has a line
abbrev pub AreSilent : (Spread → List ℕ) → List Spread → List Bool → Type 0
AreSilent line spreads due =
    (n : ℕ) (d : Spread) → n < length spreads → get_or due n false ≡ false → line (get_or spreads n d) ≡ []

-- what stands beside the desks of listed securities: the spreads among them, their parts, and a mark for each spread
pub record AreAudited (listed : List Instrument) (spreads : List Spread) (parts : List (List ℕ))
    (due : List Bool) : Type 0 where
  pub spreads_are : AreSpreadsOf listed spreads
  pub parts_are : AreParts (length listed) (length spreads) spreads parts
  pub many : length due ≡ length spreads
