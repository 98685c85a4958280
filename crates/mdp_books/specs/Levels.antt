-- The text of levels as they are printed, and what is kept beside levels so that their text moves as they do.
use Rattle.std.specs.Prelude.{◌≡◌, ◌≤◌, ◌+◌, ℕ, ℤ, List, [], ◌∷◌, ◌++◌, codes, length}
use Rattle.std.specs.Fmt.{signed_decimal}
use Rattle.std.specs.List.{flat_map, All}
use Rattle.mdp_templates.specs.declared.entry.Level.{Level}

-- one space, the price in units of 10^-9, `x`, and the size
unfoldable pub quote_text : ℤ → ℤ → List ℕ
quote_text price size = codes " " ++ signed_decimal price ++ codes "x" ++ signed_decimal size

-- the levels of a side, from the best on
abbrev pub levels_text : List Level → List ℕ
levels_text levels = flat_map (λ level. quote_text level.price level.size) levels

-- where the text of each level ends, if that of the first begins here
abbrev pub ends_from : ℕ → List Level → List ℕ
ends_from start [] = []
ends_from start (level ∷ below) =
    let end = start + length (quote_text level.price level.size) in end ∷ ends_from end below

-- at most so many levels, of which this is the text, and where each one's ends
pub record ArePrinted (capacity : ℕ) (levels : List Level) (ends text : List ℕ) : Type 0 where
  pub small : capacity ≤ 10
  pub few : length levels ≤ capacity
  pub ended : ends ≡ ends_from 0 levels
  pub short : All (λ level. length (quote_text level.price level.size) ≤ 44) levels
  pub written : text ≡ levels_text levels
