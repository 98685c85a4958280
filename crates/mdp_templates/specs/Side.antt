-- A snapshot's side while it is gathered, position by position.
use Rattle.std.specs.Prelude.{◌≡◌, ◌<◌, ◌≤◌, ◌+◌, ℕ, List, [], ◌∷◌, length, slice_get, Option, Some, None}
use Rattle.std.specs.Option.{option_map, option_to_list}
use Rattle.mdp_templates.specs.declared.entry.Level.{Level}
use Rattle.mdp_templates.specs.declared.entry.Kind.{Kind}
use Rattle.mdp_templates.specs.declared.entry.Kind.TheVariants as kinds
use Rattle.mdp_templates.specs.declared.quote.Quote.{Quote}
use Rattle.mdp_templates.specs.declared.side.Found.{Found}
use Rattle.mdp_templates.specs.declared.side.Found.TheVariants.{Nothing, One, Many}
use Rattle.mdp_templates.specs.Entry.{direct_depth, implied_depth}
use Rattle.mdp_templates.specs.Recovery.{level_at, levels_at}

-- how many levels stand at a position
abbrev pub found_of : List Level → Found
found_of [] = Nothing
found_of (level ∷ []) = One level
found_of (level ∷ other ∷ levels) = Many

-- what was found, and this level if there is one
abbrev pub found_and : Found → Option Level → Found
found_and found None = found
found_and Nothing (Some level) = One level
found_and (One other) (Some level) = Many
found_and Many (Some level) = Many

-- to what was found at each position of a side, from 1 on, the level that an entry gives there was added
abbrev pub Notes : Kind → Option Quote → List Found → List Found → Type 0
Notes kind quote old new =
    (k : ℕ) → slice_get new k ≡ option_map (λ found. found_and found (level_at kind (k + 1) quote)) (slice_get old k)

-- what these entries give at each position of a side, from 1 on, as far as the list goes
abbrev pub AreFound : Kind → List (Option Quote) → List Found → Type 0
AreFound kind quotes found =
    (k : ℕ) → k < length found → slice_get found k ≡ Some (found_of (levels_at kind (k + 1) quotes))

-- no entry of this kind stands at a position past the depth
abbrev pub AreShallow : Kind → ℕ → List (Option Quote) → Type 0
AreShallow kind depth quotes = (k : ℕ) → depth ≤ k → levels_at kind (k + 1) quotes ≡ []

-- no entry stands at a position past the depth of its side
pub record AreAllShallow (quotes : List (Option Quote)) : Type 0 where
  pub bids : AreShallow kinds.Bid direct_depth quotes
  pub offers : AreShallow kinds.Offer direct_depth quotes
  pub implied_bids : AreShallow kinds.ImpliedBid implied_depth quotes
  pub implied_offers : AreShallow kinds.ImpliedOffer implied_depth quotes

-- up to this position the levels are the side's, which may be shorter
pub record IsGathered (kind : Kind) (quotes : List (Option Quote)) (position : ℕ) (side : List Level) : Type 0 where
  pub within : length side ≤ position
  pub so_far : (k : ℕ) → k < position → levels_at kind (k + 1) quotes ≡ option_to_list (slice_get side k)
