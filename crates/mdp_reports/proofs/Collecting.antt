-- Whatever the number of workers, their reports give what the moves show.
use Rattle.std.proofs.Common.{◌≡◌, ◌≢◌, ◌≤◌, ℕ, ◌+◌, zero, suc, Bool, true, false, cond, List, [], ◌∷◌, ◌++◌, length, map, Option, None, refl, sym, ap, ◌∙◌, subst, append_assoc, arith}
use Rattle.std.specs.List.{AllPairs, AllByRecursion, AllZip}
use Rattle.std.proofs.lemmas.List.{append-nil, length-map}
use Rattle.std.proofs.lemmas.List.Concat.{flat_map-append}
use Rattle.mdp_templates.specs.Packet.{MessageContent}
use Rattle.mdp_templates.specs.Snapshot.{SnapshotContent}
use Rattle.mdp_templates.specs.declared.instrument.Instrument.{Instrument}
use Rattle.mdp_books.specs.Feed.{Sent, end_at, sent_from, sent_in}
use Rattle.mdp_quotes.specs.declared.best.Best.{Best}
use Rattle.mdp_print.specs.Texts.{jump_line}
use Rattle.mdp_arbiter.specs.Machine.{Move}
use Rattle.mdp_arbiter.specs.Machine.Move.{passed, jumped}
use Rattle.mdp_templates.specs.Instrument.{ids_of}
use Rattle.mdp_desks.specs.Shown.{Footing, SinceJump, since_after, footings_at_jump, footings_before_jump, since_through, seen_since}
use Rattle.mdp_desks.specs.Lines.{lines_as}
use Rattle.mdp_desks.specs.Moments.{Moment, at_event_end, moment_at, moments_from, moments_on, text_of_moments, moment_text}
use Rattle.mdp_desks.specs.Reports.{Told, told_from}
use Rattle.mdp_reports.specs.Rounds.{kept_after, kept_at_start, told_text, round_of, round_text, kept_after_round, text_from}
use Rattle.mdp_reports.specs.RoundLaws.{Ascend, LawOfWorkers}
use Rattle.mdp_reports.proofs.Merging.{round_whole}
use Rattle.mdp_reports.proofs.Keeping.{KeptShows, Rooted, UpTo, kept_zip, kept_told, kept_behind, all_agree, all_keep}
use Rattle.mdp_reports.proofs.Ending.{IsNamed, end_text, all_named}

-- the collector's values, after these messages since the last jump
record Stand (listed : List Instrument) (since : List Sent) (footings : List Footing) (kept : List (Option Best)) : Type 0 where
  footed : map (λ (i : Footing). i.instrument) footings ≡ listed
  rooted : AllByRecursion Rooted footings
  kept_are : AllZip (KeptShows since) footings kept

same_length : {X Y : Type 0} (R : X → Y → Type 0) (xs : List X) (ys : List Y) → AllZip R xs ys → length xs ≡ length ys
same_length R [] [] all = refl
same_length R [] (y ∷ ys) all = elim all [ ]
same_length R (x ∷ xs) [] all = elim all [ ]
same_length R (x ∷ xs) (y ∷ ys) all = let rest = same_length R xs ys all.1 in omega (arith, rest)

-- ---- a message

abbrev told_at : List Footing → List Sent → Sent → List Told
told_at footings since m = told_from (end_at m) 0 (map (seen_since since m) footings)

abbrev zipped : List Footing → List Sent → Sent → List (Option Best) → List (Option Best)
zipped footings since m kept = kept_zip (map (seen_since since m) footings) kept

told_kept : (listed : List Instrument) (footings : List Footing) (since : List Sent) (m : Sent) (kept : List (Option Best)) → Stand listed since footings kept → kept_after (told_at footings since m) kept ≡ zipped footings since m kept
told_kept listed footings since m kept stand =
    let long = same_length (KeptShows since) footings kept stand.kept_are in
    let mapped = length-map footings (seen_since since m) in
    kept_told (end_at m) (map (seen_since since m) footings) kept (omega (arith, long, mapped))

end_round : (n : ℕ) (listed : List Instrument) (footings : List Footing) (since : List Sent) (m : Sent) (kept : List (Option Best)) → m.end ≡ true → 1 ≤ m.packet → UpTo m.packet since → AllPairs (λ a b. a ≢ b) (ids_of listed) → Stand listed since footings kept
    → round_text listed kept (round_of (suc n) (at_event_end (end_at m) (map (seen_since since m) footings))) ≡ lines_as (end_at m) (map (seen_since since m) footings)
end_round n listed footings since m kept is first late differ stand =
    let end = end_at m in
    ap (λ (ts : List Told). told_text end listed ts (kept_after ts kept)) (round_whole (suc n) end (map (seen_since since m) footings) (omega arith))
    ∙ ap (told_text end listed (told_at footings since m)) (told_kept listed footings since m kept stand)
    ∙ end_text since m footings listed (zipped footings since m kept) is stand.footed differ
    (all_agree since m footings kept is first late stand.rooted stand.kept_are)
    (subst (λ (l : List Instrument). AllZip IsNamed l (map (seen_since since m) footings)) stand.footed (all_named since m footings))

end_kept : (n : ℕ) (listed : List Instrument) (footings : List Footing) (since : List Sent) (m : Sent) (kept : List (Option Best)) → Stand listed since footings kept
    → kept_after_round kept (round_of (suc n) (at_event_end (end_at m) (map (seen_since since m) footings))) ≡ zipped footings since m kept
end_kept n listed footings since m kept stand =
    ap (λ (ts : List Told). kept_after ts kept) (round_whole (suc n) (end_at m) (map (seen_since since m) footings) (omega arith))
    ∙ told_kept listed footings since m kept stand

abbrev rest_text : ℕ → List Instrument → List Moment → List (Option Best) → List ℕ
rest_text n listed rest kept = text_from listed kept (map (round_of (suc n)) rest)

abbrev at : List Footing → List Sent → Sent → List Moment
at footings since m = moment_at m (map (seen_since since m) footings)

one_message : (n : ℕ) (listed : List Instrument) (footings : List Footing) (since : List Sent) (m : Sent) (kept : List (Option Best)) (rest : List Moment) → 1 ≤ m.packet → UpTo m.packet since → AllPairs (λ a b. a ≢ b) (ids_of listed) → Stand listed since footings kept
    → rest_text n listed (at footings since m ++ rest) kept ≡ text_of_moments (at footings since m) ++ rest_text n listed rest (kept_behind since m footings kept)
one_message n listed footings since m kept rest first late differ stand = by_end m.end refl
  where
    by_end : (e : Bool) → m.end ≡ e → rest_text n listed (cond e (at_event_end (end_at m) (map (seen_since since m) footings) ∷ []) [] ++ rest) kept
        ≡ text_of_moments (cond e (at_event_end (end_at m) (map (seen_since since m) footings) ∷ []) []) ++ rest_text n listed rest (cond e (kept_zip (map (seen_since since m) footings) kept) kept)
    by_end true is =
        ap (λ (t : List ℕ). t ++ rest_text n listed rest (kept_after_round kept (round_of (suc n) (at_event_end (end_at m) (map (seen_since since m) footings)))))
        (end_round n listed footings since m kept is first late differ stand ∙ sym (append-nil (lines_as (end_at m) (map (seen_since since m) footings))))
        ∙ ap (λ (b : List (Option Best)). text_of_moments (at_event_end (end_at m) (map (seen_since since m) footings) ∷ []) ++ rest_text n listed rest b) (end_kept n listed footings since m kept stand)
    by_end false is = refl

-- ---- the messages of a packet

abbrev Are : ℕ → List Sent → Type 0
Are k ms = AllByRecursion (λ (m : Sent). m.packet ≡ k) ms

abbrev kept_passed : List Footing → List Sent → List Sent → List (Option Best) → List (Option Best)
kept_passed footings since [] kept = kept
kept_passed footings since (m ∷ ms) kept = kept_passed footings (since ++ m ∷ []) ms (kept_behind since m footings kept)

up_to-more : (k : ℕ) (since : List Sent) (m : Sent) → UpTo k since → m.packet ≤ k → UpTo k (since ++ m ∷ [])
up_to-more k [] m all here = (here, tt)
up_to-more k (x ∷ since) m all here = (all.0, up_to-more k since m all.1 here)

stand_on : (listed : List Instrument) (footings : List Footing) (since : List Sent) (m : Sent) (kept : List (Option Best)) → Stand listed since footings kept → Stand listed (since ++ m ∷ []) footings (kept_behind since m footings kept)
stand_on listed footings since m kept stand = record { footed = stand.footed; rooted = stand.rooted; kept_are = all_keep since m footings kept stand.kept_are }

all_messages : (n k : ℕ) (listed : List Instrument) (footings : List Footing) (since ms : List Sent) (kept : List (Option Best)) (rest : List Moment) → 1 ≤ k → Are k ms → UpTo k since → AllPairs (λ a b. a ≢ b) (ids_of listed) → Stand listed since footings kept
    → rest_text n listed (moments_from footings since ms ++ rest) kept ≡ text_of_moments (moments_from footings since ms) ++ rest_text n listed rest (kept_passed footings since ms kept)
all_messages n k listed footings since [] kept rest first are late differ stand = refl
all_messages n k listed footings since (m ∷ ms) kept rest first are late differ stand =
    let same : m.packet ≡ k = are.0 in
    let here : 1 ≤ m.packet = omega (arith, first, same) in
    let before : UpTo m.packet since = subst (λ (p : ℕ). UpTo p since) (sym same) late in
    let later = moments_from footings (since ++ m ∷ []) ms in
    let left = rest_text n listed rest (kept_passed footings since (m ∷ ms) kept) in
    ap (λ (l : List Moment). rest_text n listed l kept) (append_assoc (at footings since m) later rest)
    ∙ one_message n listed footings since m kept (later ++ rest) here before differ stand
    ∙ ap (λ (t : List ℕ). text_of_moments (at footings since m) ++ t)
    (all_messages n k listed footings (since ++ m ∷ []) ms (kept_behind since m footings kept) rest first are.1 (up_to-more k since m late (omega (arith, same))) differ (stand_on listed footings since m kept stand))
    ∙ sym (append_assoc (text_of_moments (at footings since m)) (text_of_moments later) left)
    ∙ ap (λ (t : List ℕ). t ++ left) (sym (flat_map-append moment_text (at footings since m) later))

stand_passed : (listed : List Instrument) (footings : List Footing) (since ms : List Sent) (kept : List (Option Best)) → Stand listed since footings kept → Stand listed (since ++ ms) footings (kept_passed footings since ms kept)
stand_passed listed footings since [] kept stand = subst (λ (s : List Sent). Stand listed s footings kept) (sym (append-nil since)) stand
stand_passed listed footings since (m ∷ ms) kept stand =
    subst (λ (s : List Sent). Stand listed s footings (kept_passed footings since (m ∷ ms) kept)) (append_assoc since (m ∷ []) ms)
    (stand_passed listed footings (since ++ m ∷ []) ms (kept_behind since m footings kept) (stand_on listed footings since m kept stand))

are_from : (packet message : ℕ) (ms : List MessageContent) → Are packet (sent_from packet message ms)
are_from packet message [] = tt
are_from packet message (m ∷ ms) = (refl, are_from packet (message + 1) ms)

up_to-less : (k n : ℕ) (ms : List Sent) → k ≤ n → UpTo k ms → UpTo n ms
up_to-less k n [] less all = tt
up_to-less k n (m ∷ ms) less all = let here : m.packet ≤ k = all.0 in (omega (arith, less, here), up_to-less k n ms less all.1)

up_to-append : (k : ℕ) (since ms : List Sent) → UpTo k since → Are k ms → UpTo k (since ++ ms)
up_to-append k [] [] all are = tt
up_to-append k [] (m ∷ ms) all are = let same : m.packet ≡ k = are.0 in (omega (arith, same), up_to-append k [] ms tt are.1)
up_to-append k (x ∷ since) ms all are = (all.0, up_to-append k since ms all.1 are)

-- ---- a jump

jump_footed : (listed : List Instrument) (ss : List SnapshotContent) → length ss ≡ length listed → map (λ (i : Footing). i.instrument) (footings_at_jump listed ss) ≡ listed
jump_footed [] ss long = refl
jump_footed (i ∷ is) [] long = absurd (omega (arith, long))
jump_footed (i ∷ is) (s ∷ ss) long = ap (λ (l : List Instrument). i ∷ l) (jump_footed is ss (omega (arith, long)))

jump_rooted : (listed : List Instrument) (ss : List SnapshotContent) → AllByRecursion Rooted (footings_at_jump listed ss)
jump_rooted [] ss = tt
jump_rooted (i ∷ is) [] = tt
jump_rooted (i ∷ is) (s ∷ ss) = (λ still. absurd cc, jump_rooted is ss)

jump_kept : (listed : List Instrument) (ss : List SnapshotContent) (kept : List (Option Best)) → length ss ≡ length listed → length kept ≡ length listed → AllZip (KeptShows []) (footings_at_jump listed ss) (map (λ _. None) kept)
jump_kept [] ss [] long same = tt
jump_kept [] ss (b ∷ kept) long same = absurd (omega (arith, same))
jump_kept (i ∷ is) [] kept long same = absurd (omega (arith, long))
jump_kept (i ∷ is) (s ∷ ss) [] long same = absurd (omega (arith, same))
jump_kept (i ∷ is) (s ∷ ss) (b ∷ kept) long same = (record { waits = λ jumped none. refl; stays = λ still. absurd cc }, jump_kept is ss kept (omega (arith, long)) (omega (arith, same)))

kept_long : (listed : List Instrument) (since : List Sent) (footings : List Footing) (kept : List (Option Best)) → Stand listed since footings kept → length kept ≡ length listed
kept_long listed since footings kept stand =
    sym (same_length (KeptShows since) footings kept stand.kept_are) ∙ sym (length-map footings (λ (i : Footing). i.instrument)) ∙ ap length stand.footed

-- ---- move by move

-- before more moves, the next packet of which has this number
record Ready (listed : List Instrument) (next : ℕ) (s : SinceJump) (kept : List (Option Best)) : Type 0 where
  late : UpTo next s.since
  stand : Stand listed s.since s.footings kept

by_moves : (n : ℕ) (listed : List Instrument) (next : ℕ) (s : SinceJump) (moves : List Move) (kept : List (Option Best)) → AllPairs (λ a b. a ≢ b) (ids_of listed) → Ascend listed next moves → Ready listed next s kept
    → rest_text n listed (moments_on listed s moves) kept ≡ text_of_moments (moments_on listed s moves)
by_moves n listed next s [] kept differ ascend ready = refl
by_moves n listed next s (passed packet ∷ moves) kept differ ascend ready =
    let same : packet.number ≡ next = ascend.0 in
    let are : Are next (sent_in packet) = subst (λ (k : ℕ). Are k (sent_in packet)) same (are_from packet.number 1 packet.messages) in
    let here = moments_from s.footings s.since (sent_in packet) in
    let later = moments_on listed (since_through listed s (passed packet)) moves in
    let behind : Ready listed (next + 1) (since_through listed s (passed packet)) (kept_passed s.footings s.since (sent_in packet) kept) = record {
      late = up_to-less next (next + 1) (s.since ++ sent_in packet) (omega arith) (up_to-append next s.since (sent_in packet) ready.late are);
      stand = stand_passed listed s.footings s.since (sent_in packet) kept ready.stand;
    } in
    all_messages n next listed s.footings s.since (sent_in packet) kept later ascend.1 are ready.late differ ready.stand
    ∙ ap (λ (t : List ℕ). text_of_moments here ++ t)
    (by_moves n listed (next + 1) (since_through listed s (passed packet)) moves (kept_passed s.footings s.since (sent_in packet) kept) differ ascend.2 behind)
    ∙ sym (flat_map-append moment_text here later)
by_moves n listed next s (jumped old new ss ∷ moves) kept differ ascend ready =
    let behind : Ready listed new (since_through listed s (jumped old new ss)) (map (λ _. None) kept) = record {
      late = tt;
      stand = record { footed = jump_footed listed ss ascend.0; rooted = jump_rooted listed ss; kept_are = jump_kept listed ss kept ascend.0 (kept_long listed s.since s.footings kept ready.stand) };
    } in
    ap (λ (t : List ℕ). jump_line old new ++ t) (by_moves n listed new (since_through listed s (jumped old new ss)) moves (map (λ _. None) kept) differ ascend.1 behind)

opening_footed : (listed : List Instrument) → map (λ (i : Footing). i.instrument) (footings_before_jump listed) ≡ listed
opening_footed [] = refl
opening_footed (i ∷ is) = ap (λ (l : List Instrument). i ∷ l) (opening_footed is)

opening_rooted : (listed : List Instrument) → AllByRecursion Rooted (footings_before_jump listed)
opening_rooted [] = tt
opening_rooted (i ∷ is) = (λ still. refl, opening_rooted is)

opening_kept : (listed : List Instrument) → AllZip (KeptShows []) (footings_before_jump listed) (kept_at_start listed)
opening_kept [] = tt
opening_kept (i ∷ is) = (record { waits = λ jumped none. absurd cc; stays = λ still. refl }, opening_kept is)

pub law_of_workers : LawOfWorkers
law_of_workers zero listed moves some differ ascend = absurd (omega (arith, some))
law_of_workers (suc n) listed moves some differ ascend =
    by_moves n listed 1 (since_after listed []) moves (kept_at_start listed) differ ascend
    (record { late = tt; stand = record { footed = opening_footed listed; rooted = opening_rooted listed; kept_are = opening_kept listed } })
