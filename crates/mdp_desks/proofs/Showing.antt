-- What the desks show, move by move.
use Rattle.std.proofs.Common.{◌≡◌, ℕ, Bool, true, false, cond, List, [], ◌∷◌, ◌++◌, map, length, refl, sym, ap, subst, ◌∙◌, append_assoc, arith}
use Rattle.std.specs.Prelude.{Option, Some, None, ◌||◌, ◌&&◌, not, nat_lt, ⊤}
use Rattle.std.specs.List.{AllZip, AllByRecursion}
use Rattle.std.proofs.lemmas.List.{append-nil, length-map}
use Rattle.std.proofs.lemmas.List.Sums.{fold_push}
use Rattle.mdp_templates.specs.Packet.{PacketContent}
use Rattle.mdp_templates.specs.Snapshot.{SnapshotContent}
use Rattle.mdp_templates.specs.declared.instrument.Instrument.{Instrument}
use Rattle.mdp_books.specs.declared.book.Book.{Book}
use Rattle.mdp_books.specs.Feed.{Sent, sent_in, is_named_in, book_after, book_from, behind}
use Rattle.mdp_books.proofs.Feeds.{book_from-push, behind-push}
use Rattle.mdp_desks.specs.declared.desk.Desk.{Desk}
use Rattle.mdp_desks.specs.Lines.{Seen}
use Rattle.mdp_arbiter.specs.Machine.{Move}
use Rattle.mdp_desks.specs.Shown.{Footing, SinceJump, footings_before_jump, since_after, since_through, footings_at_jump, book_since, seen_since}
use Rattle.mdp_desks.specs.Moments.{Moment, at_jump, moments, moments_from, moments_of, walk_from}
use Rattle.mdp_desks.proofs.Moments.{same_moments, moments-push}
use Rattle.mdp_desks.specs.Due.{is_due, is_printed}
use Rattle.mdp_arbiter.specs.Machine.Move.{passed, jumped}
use Rattle.mdp_desks.specs.Desks.{desk_at_start, desk_with_message, desk_after, desk_seen, desks_after, desks_walk, passed_desks, passed_moments, desk_jumped, rebased_desks}
use Rattle.mdp_desks.specs.Shows.{DeskShows, Shows}
use Rattle.mdp_desks.specs.Beside.{listed_in}
use Rattle.mdp_desks.proofs.Marks.{is_due-push}

-- ---- one desk and one message

behind-heard : (base : ℕ) (since : List Sent) (m : Sent) → nat_lt base m.packet ≡ true → behind base (since ++ m ∷ []) ≡ behind base since ++ m ∷ []
behind-heard base since m over = behind-push base since m ∙ ap (λ (b : Bool). cond b (behind base since ++ m ∷ []) (behind base since)) over

behind-unheard : (base : ℕ) (since : List Sent) (m : Sent) → nat_lt base m.packet ≡ false → behind base (since ++ m ∷ []) ≡ behind base since
behind-unheard base since m under = behind-push base since m ∙ ap (λ (b : Bool). cond b (behind base since ++ m ∷ []) (behind base since)) under

-- the book after a message that is heard
book_heard : (since : List Sent) (i : Footing) (m : Sent) (d : Desk) → nat_lt i.base m.packet ≡ true → DeskShows since i d → book_after d.instrument d.book m ≡ book_since i (since ++ m ∷ [])
book_heard since i m d over so_far =
    ap (λ (j : Instrument). book_after j d.book m) so_far.instrument
    ∙ ap (λ (b : Book). book_after i.instrument b m) so_far.book
    ∙ sym (book_from-push i.instrument i.book (behind i.base since) m)
    ∙ sym (ap (book_from i.instrument i.book) (behind-heard i.base since m over))

marked_here : (since : List Sent) (i : Footing) (m : Sent) (d : Desk) → DeskShows since i d → (d.marked || is_named_in d.instrument.id m) ≡ (is_due i.instrument.id i.jumped (behind i.base since) || is_named_in i.instrument.id m)
marked_here since i m d so_far =
    ap (λ (b : Bool). b || is_named_in d.instrument.id m) so_far.marked
    ∙ ap (λ (j : Instrument). is_due i.instrument.id i.jumped (behind i.base since) || is_named_in j.id m) so_far.instrument

after_case : (since : List Sent) (i : Footing) (m : Sent) (d : Desk) (b : Bool) → nat_lt i.base m.packet ≡ b → DeskShows since i d → DeskShows (since ++ m ∷ []) i (cond b (desk_with_message m d) d)
after_case since i m d true over so_far =
    record {
      instrument = so_far.instrument;
      base = so_far.base;
      book = book_heard since i m d over so_far;
      marked = ap (λ (b : Bool). not m.end && b) (marked_here since i m d so_far) ∙ sym (is_due-push i.instrument.id i.jumped (behind i.base since) m) ∙ sym (ap (is_due i.instrument.id i.jumped) (behind-heard i.base since m over));
    }
after_case since i m d false under so_far =
    let same = behind-unheard i.base since m under in
    record { instrument = so_far.instrument; base = so_far.base; book = so_far.book ∙ sym (ap (book_from i.instrument i.book) same); marked = so_far.marked ∙ sym (ap (is_due i.instrument.id i.jumped) same) }

after_shows : (since : List Sent) (i : Footing) (m : Sent) (d : Desk) → DeskShows since i d → DeskShows (since ++ m ∷ []) i (desk_after m d)
after_shows since i m d so_far =
    subst (λ (k : ℕ). DeskShows (since ++ m ∷ []) i (cond (nat_lt k m.packet) (desk_with_message m d) d)) (sym so_far.base) (after_case since i m d (nat_lt i.base m.packet) refl so_far)

abbrev seen_as : Instrument → Bool → Book → Option Seen
seen_as instrument printed book = Some (record { instrument = instrument; printed = printed; book = book })

seen_case : (since : List Sent) (i : Footing) (m : Sent) (d : Desk) (e b : Bool) → nat_lt i.base m.packet ≡ b → DeskShows since i d
    → cond (e && b) (seen_as d.instrument (d.marked || is_named_in d.instrument.id m) (book_after d.instrument d.book m)) None
    ≡ cond (e && b) (seen_as i.instrument (is_printed i.instrument.id i.jumped (behind i.base since) m) (book_since i (since ++ m ∷ []))) None
seen_case since i m d false b over so_far = refl
seen_case since i m d true false under so_far = refl
seen_case since i m d true true over so_far =
    let book : Book = book_after d.instrument d.book m in
    ap (λ (b : Bool). seen_as d.instrument b book) (marked_here since i m d so_far)
    ∙ ap (λ (j : Instrument). seen_as j (is_printed i.instrument.id i.jumped (behind i.base since) m) book) so_far.instrument
    ∙ ap (λ (b : Book). seen_as i.instrument (is_printed i.instrument.id i.jumped (behind i.base since) m) b) (book_heard since i m d over so_far)

seen_same : (since : List Sent) (i : Footing) (m : Sent) (d : Desk) → DeskShows since i d → desk_seen m d ≡ seen_since since m i
seen_same since i m d so_far =
    ap (λ (k : ℕ). cond (m.end && nat_lt k m.packet) (seen_as d.instrument (d.marked || is_named_in d.instrument.id m) (book_after d.instrument d.book m)) None) so_far.base
    ∙ seen_case since i m d m.end (nat_lt i.base m.packet) refl so_far

-- ---- all desks, message by message

pub all_show : (since : List Sent) (m : Sent) (footings : List Footing) (ds : List Desk) → AllZip (DeskShows since) footings ds → AllZip (DeskShows (since ++ m ∷ [])) footings (desks_after m ds)
all_show since m [] [] is = tt
all_show since m [] (d ∷ ds) is = elim is [ ]
all_show since m (i ∷ footings) [] is = elim is [ ]
all_show since m (i ∷ footings) (d ∷ ds) is = (after_shows since i m d is.0, all_show since m footings ds is.1)

pub all_seen : (since : List Sent) (m : Sent) (footings : List Footing) (ds : List Desk) → AllZip (DeskShows since) footings ds → map (desk_seen m) ds ≡ map (seen_since since m) footings
all_seen since m [] [] is = refl
all_seen since m [] (d ∷ ds) is = elim is [ ]
all_seen since m (i ∷ footings) [] is = elim is [ ]
all_seen since m (i ∷ footings) (d ∷ ds) is =
    ap (λ (s : Option Seen). s ∷ map (desk_seen m) ds) (seen_same since i m d is.0)
    ∙ ap (λ (t : List (Option Seen)). seen_since since m i ∷ t) (all_seen since m footings ds is.1)

pass_shows : (ms since : List Sent) (footings : List Footing) (ds : List Desk) → AllZip (DeskShows since) footings ds → AllZip (DeskShows (since ++ ms)) footings (passed_desks ms ds)
pass_shows [] since footings ds is = subst (λ (s : List Sent). AllZip (DeskShows s) footings ds) (sym (append-nil since)) is
pass_shows (m ∷ ms) since footings ds is =
    subst (λ (s : List Sent). AllZip (DeskShows s) footings (passed_desks ms (desks_after m ds))) (append_assoc since (m ∷ []) ms) (pass_shows ms (since ++ m ∷ []) footings (desks_after m ds) (all_show since m footings ds is))

-- what the desks show of messages is what the footings do
all_any : (ms : List Sent) → AllByRecursion (λ (m : Sent). ⊤) ms
all_any [] = tt
all_any (m ∷ ms) = (tt, all_any ms)

pub pass_moments : (ms since : List Sent) (footings : List Footing) (ds : List Desk) → AllZip (DeskShows since) footings ds → passed_moments ms ds ≡ moments_from footings since ms
pass_moments ms since footings ds is =
    same_moments (λ (m : Sent). ⊤) (λ (desks : List Desk) (before : List Sent). AllZip (DeskShows before) footings desks)
    desks_walk (walk_from footings)
    (record { same = λ m desks before _ are. all_seen before m footings desks are; on = λ m desks before _ are. all_show before m footings desks are })
    ds since ms (all_any ms) is

-- ---- the listed securities stay

after_listed : (m : Sent) (d : Desk) (b : Bool) → (cond b (desk_with_message m d) d).instrument ≡ d.instrument
after_listed m d true = refl
after_listed m d false = refl

listed_after : (m : Sent) (ds : List Desk) → listed_in (desks_after m ds) ≡ listed_in ds
listed_after m [] = refl
listed_after m (d ∷ ds) =
    ap (λ (i : Instrument). i ∷ listed_in (desks_after m ds)) (after_listed m d (nat_lt d.base m.packet))
    ∙ ap (λ (t : List Instrument). d.instrument ∷ t) (listed_after m ds)

listed_passed : (ms : List Sent) (ds : List Desk) → listed_in (passed_desks ms ds) ≡ listed_in ds
listed_passed [] ds = refl
listed_passed (m ∷ ms) ds = listed_passed ms (desks_after m ds) ∙ listed_after m ds

jumped_listed : (base : Option SnapshotContent) (d : Desk) → (desk_jumped base d).instrument ≡ d.instrument
jumped_listed None d = refl
jumped_listed (Some s) d = refl

pub listed_rebased : (bases : List (Option SnapshotContent)) (ds : List Desk) → listed_in (rebased_desks bases ds) ≡ listed_in ds
listed_rebased bases [] = refl
listed_rebased [] (d ∷ ds) = refl
listed_rebased (base ∷ bases) (d ∷ ds) =
    ap (λ (i : Instrument). i ∷ listed_in (rebased_desks bases ds)) (jumped_listed base d)
    ∙ ap (λ (t : List Instrument). d.instrument ∷ t) (listed_rebased bases ds)

-- each desk has its snapshot
abbrev all_based : List SnapshotContent → List (Option SnapshotContent)
all_based snapshots = map (λ (s : SnapshotContent). Some s) snapshots

jump_shows : (snapshots : List SnapshotContent) (ds : List Desk) → length snapshots ≡ length ds → AllZip (DeskShows []) (footings_at_jump (listed_in ds) snapshots) (rebased_desks (all_based snapshots) ds)
jump_shows [] [] long = tt
jump_shows (s ∷ snapshots) [] long = absurd cc
jump_shows [] (d ∷ ds) long = absurd cc
jump_shows (s ∷ snapshots) (d ∷ ds) long = (record { instrument = refl; base = refl; book = refl; marked = refl }, jump_shows snapshots ds (omega arith))

-- ---- move by move

pub since_after-push : (listed : List Instrument) (moves : List Move) (move : Move) → since_after listed (moves ++ move ∷ []) ≡ since_through listed (since_after listed moves) move
since_after-push listed moves move = fold_push (since_through listed) (since_after listed []) moves move

moments_grow : (listed : List Instrument) (moves : List Move) (move : Move) (shown more after : List Moment) → shown ≡ moments listed moves → after ≡ shown ++ more → more ≡ moments_of (since_after listed moves) move → after ≡ moments listed (moves ++ move ∷ [])
moments_grow listed moves move shown more after so_far grown says =
    grown ∙ ap (λ (t : List Moment). t ++ more) so_far ∙ ap (λ (t : List Moment). moments listed moves ++ t) says ∙ sym (moments-push listed moves move)

-- a packet passes
pub shows_passed : (listed : List Instrument) (moves : List Move) (packet : PacketContent) (old new : List Desk) (shown after : List Moment) → new ≡ passed_desks (sent_in packet) old → after ≡ shown ++ passed_moments (sent_in packet) old → Shows listed moves old shown → Shows listed (moves ++ passed packet ∷ []) new after
shows_passed listed moves packet old new shown after desks grown so_far =
    let sh = since_after listed moves in
    let stands = pass_shows (sent_in packet) sh.since sh.footings old so_far.each in
    record {
      listed_are = ap listed_in desks ∙ listed_passed (sent_in packet) old ∙ so_far.listed_are;
      each =
          subst (λ (s : SinceJump). AllZip (DeskShows s.since) s.footings new) (sym (since_after-push listed moves (passed packet)))
          (subst (λ (ds : List Desk). AllZip (DeskShows (sh.since ++ sent_in packet)) sh.footings ds) (sym desks) stands);
      shown_is = moments_grow listed moves (passed packet) shown (passed_moments (sent_in packet) old) after so_far.shown_is grown (pass_moments (sent_in packet) sh.since sh.footings old so_far.each);
    }

-- a jump
pub shows_jumped : (listed : List Instrument) (moves : List Move) (from to : ℕ) (snapshots : List SnapshotContent) (old new : List Desk) (shown after : List Moment) → length snapshots ≡ length listed → new ≡ rebased_desks (map (λ (s : SnapshotContent). Some s) snapshots) old → after ≡ shown ++ at_jump from to ∷ [] → Shows listed moves old shown → Shows listed (moves ++ jumped from to snapshots ∷ []) new after
shows_jumped listed moves from to snapshots old new shown after long desks grown so_far =
    let based = rebased_desks (all_based snapshots) old in
    let each_has : length snapshots ≡ length old = long ∙ ap length (sym so_far.listed_are) ∙ length-map old (λ (d : Desk). d.instrument) in
    let stands : AllZip (DeskShows []) (footings_at_jump listed snapshots) based = subst (λ (is : List Instrument). AllZip (DeskShows []) (footings_at_jump is snapshots) based) so_far.listed_are (jump_shows snapshots old each_has) in
    record {
      listed_are = ap listed_in desks ∙ listed_rebased (all_based snapshots) old ∙ so_far.listed_are;
      each =
          subst (λ (s : SinceJump). AllZip (DeskShows s.since) s.footings new) (sym (since_after-push listed moves (jumped from to snapshots)))
          (subst (λ (ds : List Desk). AllZip (DeskShows []) (footings_at_jump listed snapshots) ds) (sym desks) stands);
      shown_is = moments_grow listed moves (jumped from to snapshots) shown (at_jump from to ∷ []) after so_far.shown_is grown refl;
    }

-- before any move
start_listed : (listed : List Instrument) → listed_in (map desk_at_start listed) ≡ listed
start_listed [] = refl
start_listed (i ∷ is) = ap (λ (t : List Instrument). i ∷ t) (start_listed is)

start_shows : (listed : List Instrument) → AllZip (DeskShows []) (footings_before_jump listed) (map desk_at_start listed)
start_shows [] = tt
start_shows (i ∷ is) = (record { instrument = refl; base = refl; book = refl; marked = refl }, start_shows is)

pub shows_nothing : (listed : List Instrument) (desks : List Desk) → desks ≡ map desk_at_start listed → Shows listed [] desks []
shows_nothing listed desks are = record { listed_are = ap listed_in are ∙ start_listed listed; each = subst (λ (ds : List Desk). AllZip (DeskShows []) (footings_before_jump listed) ds) (sym are) (start_shows listed); shown_is = refl }
