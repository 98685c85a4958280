-- What of a text went out.
use Rattle.std.specs.Prelude.{◌≡◌, ℕ, List, ◌++◌}

-- of this text a front went out, and this is left
pub record SendsFront (text start taken rest : List ℕ) : Type 0 where
  pub sent : List ℕ
  pub taken_is : taken ≡ start ++ sent
  pub whole : text ≡ sent ++ rest
