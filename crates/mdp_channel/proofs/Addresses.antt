-- Addresses that are held the last first, and looked up by group and port.
use Rattle.std.proofs.Common.{◌≡◌, ℕ, Bool, true, false, List, [], ◌∷◌, ◌++◌, Option, Some, refl, sym, ap, ◌∙◌}
use Rattle.std.specs.Prelude.{is_some, reverse, ◌||◌, if◌then◌else◌}
use Rattle.std.specs.List.{list_any}
use Rattle.std.proofs.lemmas.List.{reverse-append}
use Rattle.std.proofs.lemmas.List.Folds.{list_any-append}
use Rattle.mdp_pcap.specs.Address.{feed_at, is_at}
use Rattle.mdp_pcap.specs.declared.addresses.FeedAddress.{FeedAddress}
use Rattle.mdp_templates.specs.declared.feed.Feed.{Feed}

-- one address more stands at the end
pub reverse_more : (first : FeedAddress) (rest : List FeedAddress) → reverse (first ∷ rest) ≡ reverse rest ++ first ∷ []
reverse_more first rest = reverse-append (first ∷ []) rest

found_more : (first before : Bool) (feed : Feed) (rest : Option Feed) → is_some rest ≡ before → is_some (if first then Some feed else rest) ≡ (before || (first || false))
found_more true true feed rest is = refl
found_more true false feed rest is = refl
found_more false true feed rest is = is
found_more false false feed rest is = is

-- a group and a port are some feed's just where an address has them
pub found_by : (group port : ℕ) (addresses : List FeedAddress) → is_some (feed_at group port addresses) ≡ list_any (is_at group port) (reverse addresses)
found_by group port [] = refl
found_by group port (first ∷ rest) =
    found_more (is_at group port first) (list_any (is_at group port) (reverse rest)) first.feed (feed_at group port rest) (found_by group port rest)
    ∙ sym (list_any-append (is_at group port) (reverse rest) (first ∷ []))
    ∙ ap (list_any (is_at group port)) (sym (reverse_more first rest))
