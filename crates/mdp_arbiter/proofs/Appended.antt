-- What one more event adds to what is accepted.
use Rattle.std.proofs.Common.{◌≡◌, ℕ, ℤ, ◌≤◌, true, false, cond, eqb, List, [], ◌∷◌, ◌++◌, refl, arith, ap, inl, inr, map}
use Rattle.std.proofs.lemmas.Bool.Decides.{eqb_tells}
use Rattle.std.proofs.lemmas.List.Sums.{fold-append}
use Rattle.std.specs.Prelude.{max, fold, None, Some, is_some}
use Rattle.std.proofs.lemmas.Grind.{common_steps}
use Rattle.mdp_templates.specs.Packet.{PacketContent}
use Rattle.mdp_templates.specs.Snapshot.{SnapshotContent}
use Rattle.mdp_arbiter.specs.Accepted.{Event, came, recovered, closed, is_closed, accepted_packets, accepted_snapshots, highest_of, first_of, newer_of, newest_snapshots}
use Rattle.mdp_arbiter.specs.Snapshots.{newest_after}

-- ---- after a close nothing counts

pub packets-after_close : (es : List Event) (e : Event) → is_closed es ≡ true → accepted_packets (es ++ e ∷ []) ≡ accepted_packets es
packets-after_close [] e h = cc
packets-after_close (came p ∷ es) e h = ap (λ t. p ∷ t) (packets-after_close es e h)
packets-after_close (recovered s ∷ es) e h = packets-after_close es e h
packets-after_close (closed ∷ es) e h = refl

pub snapshots-after_close : (es : List Event) (e : Event) → is_closed es ≡ true → accepted_snapshots (es ++ e ∷ []) ≡ accepted_snapshots es
snapshots-after_close [] e h = cc
snapshots-after_close (came p ∷ es) e h = snapshots-after_close es e h
snapshots-after_close (recovered s ∷ es) e h = ap (λ t. s ∷ t) (snapshots-after_close es e h)
snapshots-after_close (closed ∷ es) e h = refl

pub closed-after_close : (es : List Event) (e : Event) → is_closed es ≡ true → is_closed (es ++ e ∷ []) ≡ true
closed-after_close [] e h = cc
closed-after_close (came p ∷ es) e h = closed-after_close es e h
closed-after_close (recovered s ∷ es) e h = closed-after_close es e h
closed-after_close (closed ∷ es) e h = refl

-- ---- a packet

pub packets-came : (es : List Event) (p : PacketContent) → is_closed es ≡ false → accepted_packets (es ++ came p ∷ []) ≡ accepted_packets es ++ p ∷ []
packets-came [] p h = refl
packets-came (came q ∷ es) p h = ap (λ t. q ∷ t) (packets-came es p h)
packets-came (recovered s ∷ es) p h = packets-came es p h
packets-came (closed ∷ es) p h = cc

pub snapshots-came : (es : List Event) (p : PacketContent) → accepted_snapshots (es ++ came p ∷ []) ≡ accepted_snapshots es
snapshots-came [] p = refl
snapshots-came (came q ∷ es) p = snapshots-came es p
snapshots-came (recovered s ∷ es) p = ap (λ t. s ∷ t) (snapshots-came es p)
snapshots-came (closed ∷ es) p = refl

pub closed-came : (es : List Event) (p : PacketContent) → is_closed (es ++ came p ∷ []) ≡ is_closed es
closed-came [] p = refl
closed-came (came q ∷ es) p = closed-came es p
closed-came (recovered s ∷ es) p = closed-came es p
closed-came (closed ∷ es) p = refl

-- ---- a snapshot

pub packets-recovered : (es : List Event) (s : SnapshotContent) → accepted_packets (es ++ recovered s ∷ []) ≡ accepted_packets es
packets-recovered [] s = refl
packets-recovered (came p ∷ es) s = ap (λ t. p ∷ t) (packets-recovered es s)
packets-recovered (recovered q ∷ es) s = packets-recovered es s
packets-recovered (closed ∷ es) s = refl

pub closed-recovered : (es : List Event) (s : SnapshotContent) → is_closed (es ++ recovered s ∷ []) ≡ is_closed es
closed-recovered [] s = refl
closed-recovered (came q ∷ es) s = closed-recovered es s
closed-recovered (recovered q ∷ es) s = closed-recovered es s
closed-recovered (closed ∷ es) s = refl

snapshots-recovered : (es : List Event) (s : SnapshotContent) → is_closed es ≡ false → accepted_snapshots (es ++ recovered s ∷ []) ≡ accepted_snapshots es ++ s ∷ []
snapshots-recovered [] s h = refl
snapshots-recovered (came q ∷ es) s h = snapshots-recovered es s h
snapshots-recovered (recovered q ∷ es) s h = ap (λ t. q ∷ t) (snapshots-recovered es s h)
snapshots-recovered (closed ∷ es) s h = cc

-- ---- a close

pub packets-closed : (es : List Event) → accepted_packets (es ++ closed ∷ []) ≡ accepted_packets es
packets-closed [] = refl
packets-closed (came p ∷ es) = ap (λ t. p ∷ t) (packets-closed es)
packets-closed (recovered s ∷ es) = packets-closed es
packets-closed (closed ∷ es) = refl

pub snapshots-closed : (es : List Event) → accepted_snapshots (es ++ closed ∷ []) ≡ accepted_snapshots es
snapshots-closed [] = refl
snapshots-closed (came p ∷ es) = snapshots-closed es
snapshots-closed (recovered s ∷ es) = ap (λ t. s ∷ t) (snapshots-closed es)
snapshots-closed (closed ∷ es) = refl

pub closed-closed : (es : List Event) → is_closed (es ++ closed ∷ []) ≡ true
closed-closed [] = refl
closed-closed (came p ∷ es) = closed-closed es
closed-closed (recovered s ∷ es) = closed-closed es
closed-closed (closed ∷ es) = refl

-- ---- numbers

pub highest-more : (ps : List PacketContent) (p : PacketContent) → highest_of (ps ++ p ∷ []) ≡ max (highest_of ps) p.number
highest-more [] p = omega arith
highest-more (q ∷ ps) p = rw (highest-more ps p) (omega arith)

-- a packet of a new number is the first of it
pub first-more : (n : ℕ) (ps : List PacketContent) (p : PacketContent) → first_of n ps ≡ None → first_of n (ps ++ p ∷ []) ≡ cond (eqb n p.number) (Some p) None
first-more n [] p h = refl
first-more n (q ∷ ps) p h = grind (arith, common_steps, first-more n ps p)

-- a packet leaves other numbers
pub first-apart : (n : ℕ) (ps : List PacketContent) (p : PacketContent) → eqb n p.number ≡ false → first_of n (ps ++ p ∷ []) ≡ first_of n ps
first-apart n [] p h = rw h refl
first-apart n (q ∷ ps) p h = rw (first-apart n ps p h) refl

-- a first packet stays
pub first-stays : (n : ℕ) (ps : List PacketContent) (p : PacketContent) → is_some (first_of n ps) ≡ true → first_of n (ps ++ p ∷ []) ≡ first_of n ps
first-stays n [] p h = cc
first-stays n (q ∷ ps) p h = grind (arith, common_steps, first-stays n ps p)

pub first-within : (n : ℕ) (ps : List PacketContent) → is_some (first_of n ps) ≡ true → n ≤ highest_of ps
first-within n [] h = cc
first-within n (q ∷ ps) h = elim (eqb_tells n q.number) [ inl e ↦ omega (arith, e.1) | inr e ↦ let t : n ≤ highest_of ps = first-within n ps (rw e.0 at h) in omega arith ]

-- ---- newest snapshots

pub newest-same : (ids : List ℤ) (es fs : List Event) → accepted_snapshots fs ≡ accepted_snapshots es → newest_snapshots ids fs ≡ newest_snapshots ids es
newest-same ids es fs e = ap (λ (ss : List SnapshotContent). map (λ (id : ℤ). fold (newer_of id) None ss) ids) e

all-newest_after : (ids : List ℤ) (ss : List SnapshotContent) (s : SnapshotContent)
    → map (λ (id : ℤ). fold (newer_of id) None (ss ++ s ∷ [])) ids ≡ newest_after ids s (map (λ (id : ℤ). fold (newer_of id) None ss) ids)
all-newest_after [] ss s = refl
all-newest_after (id ∷ ids) ss s = rw (fold-append (newer_of id) None ss (s ∷ []), all-newest_after ids ss s) refl

pub newest_snapshots-newest_after : (ids : List ℤ) (es : List Event) (s : SnapshotContent) → is_closed es ≡ false
    → newest_snapshots ids (es ++ recovered s ∷ []) ≡ newest_after ids s (newest_snapshots ids es)
newest_snapshots-newest_after ids es s h = rw (snapshots-recovered es s h) (all-newest_after ids (accepted_snapshots es) s)
