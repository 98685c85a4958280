-- The totals of sides whose prices are in order: the direct levels, with each implied level put in at its price.
use Rattle.std.specs.Prelude.{ℕ, suc, Bool, true, false, ◌&&◌, List, [], ◌∷◌, ◌++◌, Option, Some, None, map, take, drop, slice_get, if◌then◌else◌}
use Rattle.std.specs.Ordering.{int_eq}
use Rattle.std.specs.List.{prefix_len}
use Rattle.mdp_templates.specs.declared.entry.Level.{Level}
use Rattle.mdp_books.specs.declared.book.Sides.{Sides}
use Rattle.mdp_quotes.specs.declared.total.Total.{Total}
use Rattle.mdp_quotes.specs.declared.total.Way.{Way}
use Rattle.mdp_quotes.specs.declared.total.Way.TheVariants.{Falling, Rising}
use Rattle.mdp_quotes.specs.Order.{is_ahead}
use Rattle.mdp_quotes.specs.Entering.{total_of, with}
use Rattle.mdp_quotes.specs.Quotes.{Quotes}

-- each level has a better price than the next
abbrev pub are_ordered : Way → List Level → Bool
are_ordered way [] = true
are_ordered way (x ∷ []) = true
are_ordered way (x ∷ y ∷ xs) = is_ahead way x.price y.price && are_ordered way (y ∷ xs)

-- on each of the four sides each level has a better price than the next
abbrev pub are_in_order : Sides → Bool
are_in_order sides =
    are_ordered Falling sides.bids.levels
    && are_ordered Falling sides.implied_bids.levels
    && are_ordered Rising sides.offers.levels
    && are_ordered Rising sides.implied_offers.levels

-- how many levels come before this one
abbrev pub ahead_of : Way → Level → List Level → ℕ
ahead_of way x levels = prefix_len (λ (y : Level). is_ahead way y.price x.price) levels

abbrev pub is_at_price : Level → Option Level → Bool
is_at_price x None = false
is_at_price x (Some y) = int_eq y.price x.price

-- a level, with the one that stands at its price, if one does
abbrev pub total_with : Level → Option Level → Total
total_with x None = total_of x
total_with x (Some y) = if int_eq y.price x.price then with x (total_of y) else total_of x

-- how many levels come before this one or stand at its price
abbrev pub passed_by : Way → Level → List Level → ℕ
passed_by way x levels =
    if is_at_price x (slice_get levels (ahead_of way x levels)) then suc (ahead_of way x levels)
    else ahead_of way x levels

-- the totals up to an implied level, that of its price the last
abbrev pub totals_to : Way → Level → List Level → List Total
totals_to way x direct =
    map total_of (take (ahead_of way x direct) direct) ++ total_with x (slice_get direct (ahead_of way x direct)) ∷ []

-- the direct levels with each implied one put in at its price
abbrev pub merged : Way → List Level → List Level → List Total
merged way direct [] = map total_of direct
merged way direct (x ∷ implied) = totals_to way x direct ++ merged way (drop (passed_by way x direct) direct) implied

-- the sides of a book, each merged
abbrev pub merged_quotes : Sides → Quotes
merged_quotes sides = record {
  bids = merged Falling sides.bids.levels sides.implied_bids.levels;
  offers = merged Rising sides.offers.levels sides.implied_offers.levels;
}
