-- A worker that has only its own securities and their snapshots reports its part of each moment.
use Rattle.std.proofs.Common.{◌≡◌, ◌≤◌, ℕ, ◌+◌, Bool, true, false, cond, List, [], ◌∷◌, ◌++◌, length, map, Option, Some, None, refl, sym, ap, ◌∙◌, arith}
use Rattle.std.specs.Prelude.{fold}
use Rattle.std.specs.List.{filter}
use Rattle.std.proofs.lemmas.List.{map-append, length-map}
use Rattle.std.proofs.lemmas.List.Elements.{filter-append}
use Rattle.mdp_templates.specs.Snapshot.{SnapshotContent}
use Rattle.mdp_templates.specs.declared.instrument.Instrument.{Instrument}
use Rattle.mdp_books.specs.declared.event_end.EventEnd.{EventEnd}
use Rattle.mdp_books.specs.Feed.{Sent, sent_in, end_at}
use Rattle.mdp_arbiter.specs.Machine.{Move}
use Rattle.mdp_arbiter.specs.Machine.Move.{passed, jumped}
use Rattle.mdp_desks.specs.Lines.{Seen}
use Rattle.mdp_desks.specs.Shown.{Footing, SinceJump, footings_at_jump, footing_at_snapshot, footings_before_jump, since_after, since_through, seen_since}
use Rattle.mdp_desks.specs.Moments.{at_event_end, moment_at, moments_from, moments_of, moments_on}
use Rattle.mdp_desks.specs.Shares.{own_part, own_slots, own_move, own_moves}
use Rattle.mdp_desks.specs.Reports.{Told, Report, of_event_end, told_of, told_there, told_by, told_from, report_by, report_of}
use Rattle.mdp_desks.specs.ShareLaws.{LawOfShares}

-- ---- one's own of a list

own_part-map : {X Y : Type 0} (f : X → Y) (mine : ℕ → Bool) (slot : ℕ) (xs : List X) → own_part mine slot (map f xs) ≡ map f (own_part mine slot xs)
own_part-map f mine slot [] = refl
own_part-map f mine slot (x ∷ xs) = by_mine (mine slot) (own_part-map f mine (slot + 1) xs)
  where
    by_mine : (b : Bool) → own_part mine (slot + 1) (map f xs) ≡ map f (own_part mine (slot + 1) xs) → cond b (f x ∷ own_part mine (slot + 1) (map f xs)) (own_part mine (slot + 1) (map f xs)) ≡ map f (cond b (x ∷ own_part mine (slot + 1) xs) (own_part mine (slot + 1) xs))
    by_mine true others = ap (λ t. f x ∷ t) others
    by_mine false others = others

no_snapshot : (is : List Instrument) → [] ≡ footings_at_jump is []
no_snapshot [] = refl
no_snapshot (i ∷ is) = refl

own_part-footings_at_jump : (mine : ℕ → Bool) (slot : ℕ) (is : List Instrument) (ss : List SnapshotContent) → own_part mine slot (footings_at_jump is ss) ≡ footings_at_jump (own_part mine slot is) (own_part mine slot ss)
own_part-footings_at_jump mine slot [] ss = refl
own_part-footings_at_jump mine slot (i ∷ is) [] = no_snapshot (own_part mine slot (i ∷ is))
own_part-footings_at_jump mine slot (i ∷ is) (s ∷ ss) = by_mine (mine slot) (own_part-footings_at_jump mine (slot + 1) is ss)
  where
    by_mine : (b : Bool) → own_part mine (slot + 1) (footings_at_jump is ss) ≡ footings_at_jump (own_part mine (slot + 1) is) (own_part mine (slot + 1) ss)
        → cond b (footing_at_snapshot i s ∷ own_part mine (slot + 1) (footings_at_jump is ss)) (own_part mine (slot + 1) (footings_at_jump is ss))
        ≡ footings_at_jump (cond b (i ∷ own_part mine (slot + 1) is) (own_part mine (slot + 1) is)) (cond b (s ∷ own_part mine (slot + 1) ss) (own_part mine (slot + 1) ss))
    by_mine true others = ap (λ (t : List Footing). footing_at_snapshot i s ∷ t) others
    by_mine false others = others

-- ---- what the moves show of one's own

abbrev own_shown : (ℕ → Bool) → SinceJump → SinceJump
own_shown mine s = record { footings = own_part mine 0 s.footings; since = s.since }

own_from : (mine : ℕ → Bool) (listed : List Instrument) (s : SinceJump) (moves : List Move) → fold (since_through (own_part mine 0 listed)) (own_shown mine s) (own_moves mine moves) ≡ own_shown mine (fold (since_through listed) s moves)
own_from mine listed s [] = refl
own_from mine listed s (passed packet ∷ moves) = own_from mine listed (since_through listed s (passed packet)) moves
own_from mine listed s (jumped old new ss ∷ moves) =
    ap (λ (footings : List Footing). fold (since_through (own_part mine 0 listed)) (record { footings = footings; since = [] }) (own_moves mine moves)) (sym (own_part-footings_at_jump mine 0 listed ss))
    ∙ own_from mine listed (since_through listed s (jumped old new ss)) moves

shown_own : (mine : ℕ → Bool) (listed : List Instrument) (moves : List Move) → since_after (own_part mine 0 listed) (own_moves mine moves) ≡ own_shown mine (since_after listed moves)
shown_own mine listed moves =
    ap (λ (footings : List Footing). fold (since_through (own_part mine 0 listed)) (record { footings = footings; since = [] }) (own_moves mine moves)) (sym (own_part-map _ mine 0 listed))
    ∙ own_from mine listed (record { footings = footings_before_jump listed; since = [] }) moves

-- ---- no more securities than are listed

started_few : (is : List Instrument) (ss : List SnapshotContent) → length (footings_at_jump is ss) ≤ length is
started_few [] ss = omega arith
started_few (i ∷ is) [] = omega arith
started_few (i ∷ is) (s ∷ ss) = let rest = started_few is ss in omega (arith, rest)

opening_few : (is : List Instrument) → length (footings_before_jump is) ≤ length is
opening_few [] = omega arith
opening_few (i ∷ is) = let rest = opening_few is in omega (arith, rest)

few_from : (listed : List Instrument) (s : SinceJump) (moves : List Move) → length s.footings ≤ length listed → length (fold (since_through listed) s moves).footings ≤ length listed
few_from listed s [] few = few
few_from listed s (passed packet ∷ moves) few = few_from listed (since_through listed s (passed packet)) moves few
few_from listed s (jumped old new ss ∷ moves) few = few_from listed (since_through listed s (jumped old new ss)) moves (started_few listed ss)

few : (listed : List Instrument) (moves : List Move) → length (since_after listed moves).footings ≤ length listed
few listed moves = few_from listed (since_after listed []) moves (opening_few listed)

-- ---- what is told of one's own

abbrev keeps : (ℕ → Bool) → Told → Bool
keeps mine t = mine t.slot

none_told : (end : EventEnd) (slots : List ℕ) → told_by end slots [] ≡ []
none_told end [] = refl
none_told end (slot ∷ slots) = refl

one_kept : (mine : ℕ → Bool) (end : EventEnd) (slot : ℕ) (s : Option Seen) → mine slot ≡ true → filter (keeps mine) (told_there end slot s) ≡ told_there end slot s
one_kept mine end slot None is = refl
one_kept mine end slot (Some s) is = by_printed s.printed
  where
    by_printed : (b : Bool) → filter (keeps mine) (cond b (told_of end slot s ∷ []) []) ≡ cond b (told_of end slot s ∷ []) []
    by_printed true = ap (λ (b : Bool). cond b (told_of end slot s ∷ []) []) is
    by_printed false = refl

one_left : (mine : ℕ → Bool) (end : EventEnd) (slot : ℕ) (s : Option Seen) → mine slot ≡ false → filter (keeps mine) (told_there end slot s) ≡ []
one_left mine end slot None is = refl
one_left mine end slot (Some s) is = by_printed s.printed
  where
    by_printed : (b : Bool) → filter (keeps mine) (cond b (told_of end slot s ∷ []) []) ≡ []
    by_printed true = ap (λ (b : Bool). cond b (told_of end slot s ∷ []) []) is
    by_printed false = refl

told_own : (mine : ℕ → Bool) (end : EventEnd) (slot : ℕ) (listed : List Instrument) (seen : List (Option Seen)) → length seen ≤ length listed
    → told_by end (own_slots mine slot listed) (own_part mine slot seen) ≡ filter (keeps mine) (told_from end slot seen)
told_own mine end slot listed [] within = none_told end (own_slots mine slot listed)
told_own mine end slot [] (s ∷ seen) within = absurd (omega (arith, within))
told_own mine end slot (i ∷ listed) (s ∷ seen) within = by_mine (mine slot) refl (told_own mine end (slot + 1) listed seen (omega (arith, within)))
  where
    by_mine : (b : Bool) → mine slot ≡ b
        → told_by end (own_slots mine (slot + 1) listed) (own_part mine (slot + 1) seen) ≡ filter (keeps mine) (told_from end (slot + 1) seen)
        → told_by end (cond b (slot ∷ own_slots mine (slot + 1) listed) (own_slots mine (slot + 1) listed)) (cond b (s ∷ own_part mine (slot + 1) seen) (own_part mine (slot + 1) seen))
        ≡ filter (keeps mine) (told_there end slot s ++ told_from end (slot + 1) seen)
    by_mine true is others =
        ap (λ (t : List Told). told_there end slot s ++ t) others
        ∙ ap (λ (t : List Told). t ++ filter (keeps mine) (told_from end (slot + 1) seen)) (sym (one_kept mine end slot s is))
        ∙ sym (filter-append (keeps mine) (told_there end slot s) (told_from end (slot + 1) seen))
    by_mine false is others =
        others
        ∙ ap (λ (t : List Told). t ++ filter (keeps mine) (told_from end (slot + 1) seen)) (sym (one_left mine end slot s is))
        ∙ sym (filter-append (keeps mine) (told_there end slot s) (told_from end (slot + 1) seen))

-- ---- moment by moment

reported : (mine : ℕ → Bool) (listed : List Instrument) (footings : List Footing) (since : List Sent) (m : Sent) → length footings ≤ length listed
    → map (report_by (own_slots mine 0 listed)) (moment_at m (map (seen_since since m) (own_part mine 0 footings))) ≡ map (report_of mine) (moment_at m (map (seen_since since m) footings))
reported mine listed footings since m within = by_end m.end
  where
    long : length (map (seen_since since m) footings) ≤ length listed
    long = let same = length-map footings (seen_since since m) in omega (arith, same, within)

    told : told_by (end_at m) (own_slots mine 0 listed) (map (seen_since since m) (own_part mine 0 footings)) ≡ filter (keeps mine) (told_from (end_at m) 0 (map (seen_since since m) footings))
    told = ap (told_by (end_at m) (own_slots mine 0 listed)) (sym (own_part-map (seen_since since m) mine 0 footings)) ∙ told_own mine (end_at m) 0 listed (map (seen_since since m) footings) long

    by_end : (e : Bool) → map (report_by (own_slots mine 0 listed)) (cond e (at_event_end (end_at m) (map (seen_since since m) (own_part mine 0 footings)) ∷ []) [])
        ≡ map (report_of mine) (cond e (at_event_end (end_at m) (map (seen_since since m) footings) ∷ []) [])
    by_end true = ap (λ (ts : List Told). of_event_end (end_at m) ts ∷ []) told
    by_end false = refl

from_reported : (mine : ℕ → Bool) (listed : List Instrument) (footings : List Footing) (since ms : List Sent) → length footings ≤ length listed
    → map (report_by (own_slots mine 0 listed)) (moments_from (own_part mine 0 footings) since ms) ≡ map (report_of mine) (moments_from footings since ms)
from_reported mine listed footings since [] within = refl
from_reported mine listed footings since (m ∷ ms) within =
    map-append (report_by (own_slots mine 0 listed)) (moment_at m (map (seen_since since m) (own_part mine 0 footings))) (moments_from (own_part mine 0 footings) (since ++ m ∷ []) ms)
    ∙ ap (λ (t : List Report). t ++ map (report_by (own_slots mine 0 listed)) (moments_from (own_part mine 0 footings) (since ++ m ∷ []) ms)) (reported mine listed footings since m within)
    ∙ ap (λ (t : List Report). map (report_of mine) (moment_at m (map (seen_since since m) footings)) ++ t) (from_reported mine listed footings (since ++ m ∷ []) ms within)
    ∙ sym (map-append (report_of mine) (moment_at m (map (seen_since since m) footings)) (moments_from footings (since ++ m ∷ []) ms))

of_reported : (mine : ℕ → Bool) (listed : List Instrument) (s : SinceJump) (move : Move) → length s.footings ≤ length listed
    → map (report_by (own_slots mine 0 listed)) (moments_of (own_shown mine s) (own_move mine move)) ≡ map (report_of mine) (moments_of s move)
of_reported mine listed s (passed packet) within = from_reported mine listed s.footings s.since (sent_in packet) within
of_reported mine listed s (jumped old new snapshots) within = refl

on_reported : (mine : ℕ → Bool) (listed : List Instrument) (s : SinceJump) (moves : List Move) → length s.footings ≤ length listed
    → map (report_by (own_slots mine 0 listed)) (moments_on (own_part mine 0 listed) (own_shown mine s) (own_moves mine moves)) ≡ map (report_of mine) (moments_on listed s moves)
on_reported mine listed s [] within = refl
on_reported mine listed s (m ∷ moves) within =
    let by = report_by (own_slots mine 0 listed) in
    let next = since_through listed s m in
    ap (λ (z : SinceJump). map by (moments_of (own_shown mine s) (own_move mine m) ++ moments_on (own_part mine 0 listed) z (own_moves mine moves))) (own_from mine listed s (m ∷ []))
    ∙ map-append by (moments_of (own_shown mine s) (own_move mine m)) (moments_on (own_part mine 0 listed) (own_shown mine next) (own_moves mine moves))
    ∙ ap (λ (t : List Report). t ++ map by (moments_on (own_part mine 0 listed) (own_shown mine next) (own_moves mine moves))) (of_reported mine listed s m within)
    ∙ ap (λ (t : List Report). map (report_of mine) (moments_of s m) ++ t) (on_reported mine listed next moves (few_from listed s (m ∷ []) within))
    ∙ sym (map-append (report_of mine) (moments_of s m) (moments_on listed next moves))

pub law_of_shares : LawOfShares
law_of_shares mine listed before moves =
    ap (λ (s : SinceJump). map (report_by (own_slots mine 0 listed)) (moments_on (own_part mine 0 listed) s (own_moves mine moves))) (shown_own mine listed before)
    ∙ on_reported mine listed (since_after listed before) moves (few listed before)
