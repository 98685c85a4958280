-- Items with tags, and the item that ends a sender.
use Rattle.std.specs.Prelude.{◌≡◌, ℕ, Bool, true, false, List, [], ◌∷◌, if◌then◌else◌, ◌&&◌, not}
use Rattle.std.specs.List.{count_by}
use Rattle.mdp_templates.specs.declared.feed.Feed.{Feed}
use Rattle.mdp_templates.specs.declared.feed.Feed.TheVariants.{A, B, S}

-- whether two tags are the same
abbrev pub is_same : Feed → Feed → Bool
is_same A A = true
is_same A B = false
is_same A S = false
is_same B A = false
is_same B B = true
is_same B S = false
is_same S A = false
is_same S B = false
is_same S S = true

module _ {I : Type 0} where
  -- the items with this tag, in order
  abbrev pub items_of : Feed → List (Feed × I) → List I
  items_of tag [] = []
  items_of tag (m ∷ ms) = if is_same tag m.0 then (m.1 ∷ items_of tag ms) else items_of tag ms

  module _ (is_end : I → Bool) where
    -- how many of the items with tags are ends
    abbrev pub ends_taken : List (Feed × I) → ℕ
    ends_taken taken = count_by (λ m. is_end m.1) taken

    -- whether no item but the last is an end
    abbrev pub ends_last : List I → Bool
    ends_last [] = true
    ends_last (x ∷ []) = true
    ends_last (x ∷ y ∷ ys) = not (is_end x) && ends_last (y ∷ ys)

    abbrev pub EndsLast : List I → Type 0
    EndsLast items = ends_last items ≡ true
