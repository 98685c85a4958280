-- The complete feed of a recovery that is written out.
use Rattle.std.proofs.Common.{◌≡◌, ℕ, Bool, true, false, cond, List, [], ◌∷◌, ◌++◌, refl, subst, arith}
use Rattle.std.specs.Prelude.{◌==◌, Some, None, IfSome}
use Rattle.std.specs.List.{AllByRecursion}
use Rattle.mdp_templates.specs.Packet.{PacketContent}
use Rattle.mdp_templates.specs.declared.instrument.Instrument.{Instrument}
use Rattle.mdp_templates.specs.declared.entry.Kind.TheVariants.{Offer}
use Rattle.mdp_arbiter.specs.Accepted.{Event, came, recovered, first_of, newest_snapshot}
use Rattle.mdp_engine.specs.Feed.{IsIn, IsSnapshotOf}
use Rattle.mdp_engine.specs.GivenUp.{LawOfARecovery, first_is_lost, near, packet_with, snapshot_of_first, two_packets}

abbrev second : PacketContent
second = packet_with 2 Offer 103 4

first_packets : (k : ℕ) → IfSome (first_of k (second ∷ [])) (IsIn two_packets)
first_packets k = by_number (k == 2)
  where
    by_number : (b : Bool) → IfSome (cond b (Some second) None) (IsIn two_packets)
    by_number true = record { first = omega arith; place = refl }
    by_number false = tt

-- the newest snapshots of the listed security at a front of the events
abbrev AreOfFeed : List Event → Type 0
AreOfFeed front = AllByRecursion (λ (i : Instrument). IfSome (newest_snapshot i.id front) (IsSnapshotOf two_packets i)) (near ∷ [])

fronts : (front rest : List Event) → first_is_lost ≡ front ++ rest → AreOfFeed front
fronts [] rest is = (tt, tt)
fronts (e ∷ []) rest is = let here : came second ≡ e = cc in subst (λ (x : Event). AreOfFeed (x ∷ [])) here (tt, tt)
fronts (e ∷ f ∷ []) rest is =
    let here : came second ≡ e = cc in
    let next : recovered snapshot_of_first ≡ f = cc in
    subst (λ (x : Event). AreOfFeed (x ∷ f ∷ [])) here
    (subst (λ (y : Event). AreOfFeed (came second ∷ y ∷ [])) next
    (record { within = omega arith; short_bids = omega arith; short_offers = omega arith; book = refl }, tt))
fronts (e ∷ f ∷ g ∷ front) rest is = absurd cc

pub law_of_a_recovery : LawOfARecovery
law_of_a_recovery = (
  record {
    complete = record { numbered = (refl, (refl, tt)); long = omega arith };
    packets = first_packets;
    snapshots = fronts;
  },
  refl,
)
