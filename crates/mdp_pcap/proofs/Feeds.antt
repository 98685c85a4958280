-- Where no two addresses have one group and port, each address is the one that a lookup finds.
use Rattle.std.proofs.Common.{◌≡◌, ◌==◌, ℕ, zero, suc, Bool, true, false, List, [], ◌∷◌, Some, None, sym, ap, subst, refl, arith, slice_get}
use Rattle.std.proofs.lemmas.Bool.{eq-eqb}
use Rattle.mdp_pcap.specs.Address.{feed_at, is_at, AreApart}
use Rattle.mdp_pcap.specs.declared.addresses.FeedAddress.{FeedAddress}

at_itself : (address : FeedAddress) → is_at address.group address.port address ≡ true
at_itself address =
    let group : (address.group == address.group) ≡ true = eq-eqb address.group address.group refl in
    let port : (address.port == address.port) ≡ true = eq-eqb address.port address.port refl in
    rw group port

-- an address that is at another's group and port has both
same_place : (a other : FeedAddress) → is_at a.group a.port other ≡ true → (other.group ≡ a.group) × (other.port ≡ a.port)
same_place a other e = (grind arith, grind arith)

found_here : (a first : FeedAddress) (rest : List FeedAddress) → first ≡ a → feed_at a.group a.port (first ∷ rest) ≡ Some a.feed
found_here a first rest e =
    let found : is_at a.group a.port first ≡ true = subst (λ (x : FeedAddress). is_at a.group a.port x ≡ true) (sym e) (at_itself a) in
    let feed = ap (λ (x : FeedAddress). x.feed) e in
    rw found (ap Some feed)

found_later : (a first : FeedAddress) (rest : List FeedAddress) (b : Bool) → is_at a.group a.port first ≡ b → feed_at first.group first.port rest ≡ None → feed_at a.group a.port rest ≡ Some a.feed → feed_at a.group a.port (first ∷ rest) ≡ Some a.feed
found_later a first rest true e apart found =
    let same = same_place a first e in
    let none : feed_at a.group a.port rest ≡ None = subst (λ (g : ℕ). feed_at g a.port rest ≡ None) same.0 (subst (λ (p : ℕ). feed_at first.group p rest ≡ None) same.1 apart) in
    cc
found_later a first rest false e apart found = rw e found

pub one_feed : (addresses : List FeedAddress) (a : FeedAddress) (n : ℕ) → AreApart addresses → slice_get addresses n ≡ Some a → feed_at a.group a.port addresses ≡ Some a.feed
one_feed [] a n apart is = cc
one_feed (first ∷ rest) a zero apart is = let same : first ≡ a = cc in found_here a first rest same
one_feed (first ∷ rest) a (suc n) apart is = found_later a first rest (is_at a.group a.port first) refl apart.0 (one_feed rest a n apart.1 is)
