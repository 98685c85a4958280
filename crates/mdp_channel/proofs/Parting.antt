-- Texts that are cut at a byte, with a part too many.
use Rattle.std.proofs.Common.{◌≡◌, ℕ, ◌<◌, true, false, List, [], ◌∷◌, length, Option, None, Some, refl, ap, ◌∙◌, arith, eqb, inl, inr, codes}
use Rattle.std.specs.Prelude.{is_some}
use Rattle.std.specs.Str.{bytes_eq}
use Rattle.std.proofs.lemmas.Bool.{cases_Bool, cond-false, cond-true}
use Rattle.std.proofs.lemmas.List.Splits.{length-slice_split}
use denote.Ref.{Bor}
use Rattle.mdp_templates.specs.declared.feed.Feed.{Feed}
use Rattle.mdp_channel.specs.Address.{address, address_of_fields, feed_of, group_of, group_of_parts, parts, parts_left, port_of}

parts_some : (cut : ℕ) (text : List ℕ) → 0 < length (parts cut text)
parts_some cut text = omega (arith, length-slice_split (λ byte. eqb byte cut) text)

left_some : (cut : ℕ) (rest : Option (Bor (List ℕ))) → is_some rest ≡ true → 0 < length (parts_left cut rest)
left_some cut None is = absurd (cc)
left_some cut (Some text) is = parts_some cut text.now

group_of_more : (a b c d : List ℕ) (more : List (List ℕ)) → 0 < length more → group_of_parts (a ∷ b ∷ c ∷ d ∷ more) ≡ None
group_of_more a b c d [] some = absurd (omega arith)
group_of_more a b c d (part ∷ more) some = refl

address_of_more : (letter feed group port : List ℕ) (more : List (List ℕ)) → 0 < length more → address_of_fields (letter ∷ feed ∷ group ∷ port ∷ more) ≡ None
address_of_more letter feed group port [] some = absurd (omega arith)
address_of_more letter feed group port (field ∷ more) some = refl

-- there is no part more
pub none_left : (cut : ℕ) (rest : Option (Bor (List ℕ))) → is_some rest ≡ false → parts_left cut rest ≡ []
none_left cut None is = refl
none_left cut (Some text) is = absurd (cc)

-- one byte more than an IPv4 address has
pub group_of_left : (a b c d : List ℕ) (rest : Option (Bor (List ℕ))) → is_some rest ≡ true → group_of_parts (a ∷ b ∷ c ∷ d ∷ parts_left 46 rest) ≡ None
group_of_left a b c d rest is = group_of_more a b c d (parts_left 46 rest) (left_some 46 rest is)

-- one field more than the line of an address has
pub address_of_left : (letter feed group port : List ℕ) (rest : Option (Bor (List ℕ))) → is_some rest ≡ true → address_of_fields (letter ∷ feed ∷ group ∷ port ∷ parts_left 32 rest) ≡ None
address_of_left letter feed group port rest is = address_of_more letter feed group port (parts_left 32 rest) (left_some 32 rest is)

without_port : (feed : Option Feed) (group : Option ℕ) → address feed group None ≡ None
without_port (Some feed) (Some group) = refl
without_port (Some feed) None = refl
without_port None group = refl

-- the line of an address whose port is none
pub address_of_no_port : (letter feed group port : List ℕ) → port_of port ≡ None → address_of_fields (letter ∷ feed ∷ group ∷ port ∷ []) ≡ None
address_of_no_port letter feed group port none =
    let found = ap (address (feed_of feed) (group_of group)) none ∙ without_port (feed_of feed) (group_of group) in
    elim (cases_Bool (bytes_eq letter (codes "F"))) [
      | inl is ↦ cond-true (bytes_eq letter (codes "F")) (address (feed_of feed) (group_of group) (port_of port)) None is ∙ found
      | inr other ↦ cond-false (bytes_eq letter (codes "F")) (address (feed_of feed) (group_of group) (port_of port)) None other
    ]
