-- A complete feed that events agree with: one that has begun, and behind it of each number the packet that came first, and
-- an empty one where none came.
use Rattle.std.proofs.Common.{◌≡◌, ◌≤◌, ◌<◌, ℕ, ℤ, suc, zero, ◌+◌, ◌-◌, Bool, true, false, cond, List, [], ◌∷◌, ◌++◌, length, refl, sym, ap, subst, ◌∙◌, arith, inl, inr, length-append}
use Rattle.std.specs.Prelude.{Option, Some, None, IfSome, is_some, slice_get, fold, ◌&&◌}
use Rattle.std.specs.Ordering.{int_eq}
use Rattle.std.specs.List.{AllByRecursion}
use Rattle.std.proofs.lemmas.Bool.{cases_lt}
use Rattle.std.proofs.lemmas.Bool.Decides.{Decides-int_eq, eqb_tells}
use Rattle.std.proofs.lemmas.List.{take-append-le}
use Rattle.mdp_templates.specs.Packet.{PacketContent}
use Rattle.mdp_templates.specs.Snapshot.{SnapshotContent}
use Rattle.mdp_templates.specs.declared.instrument.Instrument.{Instrument}
use Rattle.mdp_books.specs.Feed.{sent_by, book_at}
use Rattle.mdp_arbiter.specs.Accepted.{Event, came, recovered, closed, accepted_packets, accepted_snapshots, highest_of, first_of, is_newer, newer_of, newest_snapshot}
use Rattle.mdp_arbiter.proofs.Appended.{first-within}
use Rattle.mdp_engine.specs.Feed.{NumberedFrom, IsIn, IsSnapshotOf}
use Rattle.mdp_engine.specs.Honest.{IsBookOf, LawOfHonestFeeds}

-- ---- packets

abbrev IsNumber : PacketContent → Type 0
IsNumber p = (1 ≤ p.number) × (p.number ≤ 4294967295)

highest_within : (ps : List PacketContent) → AllByRecursion IsNumber ps → highest_of ps ≤ 4294967295
highest_within [] are = omega arith
highest_within (p ∷ ps) are = let others : highest_of ps ≤ 4294967295 = highest_within ps are.1 in omega (arith, are.0.1, others)

-- the first packet of a number has that number, and is one of the packets
first_is : (k : ℕ) (ps : List PacketContent) (p : PacketContent) → AllByRecursion IsNumber ps → first_of k ps ≡ Some p → (p.number ≡ k) × (1 ≤ p.number)
first_is k [] p are is = absurd cc
first_is k (q ∷ ps) p are is = elim (eqb_tells k q.number) [
  | inl e ↦
      let some : first_of k (q ∷ ps) ≡ Some q = rw e.0 refl in
      let same : q ≡ p = cc in
      rw (← same) (sym e.1, are.0.0)
  | inr e ↦ first_is k ps p are.1 (rw e.0 at is)
]

abbrev packet_at : ℕ → Option PacketContent → PacketContent
packet_at k None = record { number = k; messages = [] }
packet_at k (Some p) = p

-- so many packets, the first of which has number k
abbrev feed_from : List PacketContent → ℕ → ℕ → List PacketContent
feed_from ps k zero = []
feed_from ps k (suc n) = packet_at k (first_of k ps) ∷ feed_from ps (k + 1) n

number_at : (k : ℕ) (ps : List PacketContent) (first : Option PacketContent) → AllByRecursion IsNumber ps → first_of k ps ≡ first → (packet_at k first).number ≡ k
number_at k ps None are is = refl
number_at k ps (Some p) are is = (first_is k ps p are is).0

numbered : (ps : List PacketContent) (k n : ℕ) → AllByRecursion IsNumber ps → NumberedFrom k (feed_from ps k n)
numbered ps k zero are = tt
numbered ps k (suc n) are = (number_at k ps (first_of k ps) are refl, numbered ps (k + 1) n are)

length-feed_from : (ps : List PacketContent) (k n : ℕ) → length (feed_from ps k n) ≡ n
length-feed_from ps k zero = refl
length-feed_from ps k (suc n) = ap suc (length-feed_from ps (k + 1) n)

place_in : (ps : List PacketContent) (k n i : ℕ) (p : PacketContent) → i < n → first_of (k + i) ps ≡ Some p → slice_get (feed_from ps k n) i ≡ Some p
place_in ps k zero i p within is = absurd (omega (arith, within))
place_in ps k (suc n) zero p within is =
    let same : k + 0 ≡ k = omega arith in
    ap (λ (first : Option PacketContent). Some (packet_at k first)) (ap (λ (j : ℕ). first_of j ps) (sym same) ∙ is)
place_in ps k (suc n) (suc i) p within is =
    let same : k + suc i ≡ k + 1 + i = omega arith in
    place_in ps (k + 1) n i p (omega (arith, within)) (ap (λ (j : ℕ). first_of j ps) (sym same) ∙ is)

-- ---- a feed that has begun, and what came behind it

numbered_behind : (begun more : List PacketContent) (k : ℕ) → NumberedFrom k begun → NumberedFrom (k + length begun) more → NumberedFrom k (begun ++ more)
numbered_behind [] more k are behind = let same : k + 0 ≡ k = omega arith in subst (λ (n : ℕ). NumberedFrom n more) same behind
numbered_behind (p ∷ begun) more k are behind =
    let same : k + suc (length begun) ≡ k + 1 + length begun = omega arith in
    (are.0, numbered_behind begun more (k + 1) are.1 (subst (λ (n : ℕ). NumberedFrom n more) same behind))

place_before : (begun more : List PacketContent) (n : ℕ) (p : PacketContent) → slice_get begun n ≡ Some p → slice_get (begun ++ more) n ≡ Some p
place_before [] more n p is = absurd cc
place_before (q ∷ begun) more zero p is = is
place_before (q ∷ begun) more (suc n) p is = place_before begun more n p is

place_behind : (begun more : List PacketContent) (n : ℕ) → slice_get (begun ++ more) (length begun + n) ≡ slice_get more n
place_behind [] more n = let same : 0 + n ≡ n = omega arith in ap (slice_get more) same
place_behind (q ∷ begun) more n =
    let same : suc (length begun) + n ≡ suc (length begun + n) = omega arith in
    ap (slice_get (q ∷ (begun ++ more))) same ∙ place_behind begun more n

abbrev whole_feed : List PacketContent → List PacketContent → List PacketContent
whole_feed begun ps = begun ++ feed_from ps (length begun + 1) (highest_of ps - length begun)

packet_in : (begun ps : List PacketContent) (k : ℕ) (first : Option PacketContent) → AllByRecursion IsNumber ps → first_of k ps ≡ first
    → (k ≤ length begun → IfSome first (IsIn begun)) → IfSome first (IsIn (whole_feed begun ps))
packet_in begun ps k None are is own = tt
packet_in begun ps k (Some p) are is own =
    let at = first_is k ps p are is in
    let m = length begun in
    let n = highest_of ps - m in
    let more = feed_from ps (m + 1) n in
    let some : is_some (first_of k ps) ≡ true = rw is refl in
    let under : k ≤ highest_of ps = first-within k ps some in
    elim (cases_lt m k) [
      | inl past ↦
          let i = k - 1 - m in
          let here : p.number - 1 ≡ m + i = omega (arith, at.0, past) in
          let number : m + 1 + i ≡ k = omega (arith, past) in
          let there = place_in ps (m + 1) n i p (omega (arith, past, under)) (ap (λ (j : ℕ). first_of j ps) number ∙ is) in
          record { first = at.1; place = ap (slice_get (begun ++ more)) here ∙ place_behind begun more i ∙ there }
      | inr within ↦
          let its = own within in
          record { first = its.first; place = place_before begun more (p.number - 1) p its.place }
    ]

-- ---- snapshots

-- of the snapshots of events those of a beginning of them
snapshots_front : (P : SnapshotContent → Type 0) (xs ys : List Event) → AllByRecursion P (accepted_snapshots (xs ++ ys)) → AllByRecursion P (accepted_snapshots xs)
snapshots_front P [] ys are = tt
snapshots_front P (came p ∷ xs) ys are = snapshots_front P xs ys are
snapshots_front P (recovered s ∷ xs) ys are = (are.0, snapshots_front P xs ys are.1)
snapshots_front P (closed ∷ xs) ys are = tt

-- the newest of a security's snapshots is one of them
newer_case : (P : SnapshotContent → Type 0) (id : ℤ) (so_far : Option SnapshotContent) (s : SnapshotContent) (same newer : Bool) → int_eq id s.security ≡ same
    → IfSome so_far P → (id ≡ s.security → P s) → IfSome (cond (same && newer) (Some s) so_far) P
newer_case P id so_far s true true is old new = new ((Decides-int_eq id s.security).0 is)
newer_case P id so_far s true false is old new = old
newer_case P id so_far s false newer is old new = old

newest_is : (P : SnapshotContent → Type 0) (id : ℤ) (so_far : Option SnapshotContent) (snapshots : List SnapshotContent) → IfSome so_far P
    → AllByRecursion (λ (s : SnapshotContent). id ≡ s.security → P s) snapshots → IfSome (fold (newer_of id) so_far snapshots) P
newest_is P id so_far [] old are = old
newest_is P id so_far (s ∷ snapshots) old are =
    newest_is P id (newer_of id so_far s) snapshots (newer_case P id so_far s (int_eq id s.security) (is_newer so_far s) refl old are.0) are.1

-- a snapshot of the feed that has begun is one of the whole
snapshot_of_whole : (begun more : List PacketContent) (i : Instrument) (s : SnapshotContent) → IsSnapshotOf begun i s → IsSnapshotOf (begun ++ more) i s
snapshot_of_whole begun more i s is = record {
  within = omega (arith, is.within, length-append begun more);
  short_bids = is.short_bids;
  short_offers = is.short_offers;
  book = is.book ∙ ap (λ (ps : List PacketContent). book_at i (sent_by ps)) (sym (take-append-le s.last begun more is.within));
}

first_books : (begun more : List PacketContent) (i : Instrument) (listed : List Instrument) (snapshots : List SnapshotContent) → AllByRecursion (IsBookOf (i ∷ listed) begun) snapshots
    → AllByRecursion (λ (s : SnapshotContent). i.id ≡ s.security → IsSnapshotOf (begun ++ more) i s) snapshots
first_books begun more i listed [] are = tt
first_books begun more i listed (s ∷ snapshots) are = (λ same. snapshot_of_whole begun more i s (are.0.0 same), first_books begun more i listed snapshots are.1)

other_books : (begun : List PacketContent) (i : Instrument) (listed : List Instrument) (snapshots : List SnapshotContent) → AllByRecursion (IsBookOf (i ∷ listed) begun) snapshots
    → AllByRecursion (IsBookOf listed begun) snapshots
other_books begun i listed [] are = tt
other_books begun i listed (s ∷ snapshots) are = (are.0.1, other_books begun i listed snapshots are.1)

newest_books : (begun more : List PacketContent) (es : List Event) (listed : List Instrument) → AllByRecursion (IsBookOf listed begun) (accepted_snapshots es)
    → AllByRecursion (λ (i : Instrument). IfSome (newest_snapshot i.id es) (IsSnapshotOf (begun ++ more) i)) listed
newest_books begun more es [] are = tt
newest_books begun more es (i ∷ listed) are = (
  newest_is (IsSnapshotOf (begun ++ more) i) i.id None (accepted_snapshots es) tt (first_books begun more i listed (accepted_snapshots es) are),
  newest_books begun more es listed (other_books begun i listed (accepted_snapshots es) are),
)

pub law_of_honest_feeds : LawOfHonestFeeds
law_of_honest_feeds listed es begun numbers is_feed own books =
    let ps = accepted_packets es in
    let m = length begun in
    let n = highest_of ps - m in
    let more = feed_from ps (m + 1) n in
    let next : m + 1 ≡ 1 + m = omega arith in
    let behind = subst (λ (k : ℕ). NumberedFrom k more) next (numbered ps (m + 1) n numbers) in (
      whole_feed begun ps,
      record {
        complete = record {
          numbered = numbered_behind begun more 1 is_feed.numbered behind;
          long = omega (arith, length-append begun more, length-feed_from ps (m + 1) n, highest_within ps numbers, is_feed.long);
        };
        packets = λ k. packet_in begun ps k (first_of k ps) numbers refl (own k);
        snapshots = λ front rest is. newest_books begun more front listed
            (snapshots_front (IsBookOf listed begun) front rest (subst (λ (t : List Event). AllByRecursion (IsBookOf listed begun) (accepted_snapshots t)) is books));
      },
    )
