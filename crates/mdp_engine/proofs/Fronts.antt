-- The complete feed and its moves: where the one prints, the other does.
use Rattle.std.proofs.Common.{◌≡◌, ◌≤◌, ◌<◌, ℕ, zero, suc, ◌+◌, Bool, true, false, cond, List, [], ◌∷◌, ◌++◌, map, take, refl, sym, ap, ◌∙◌, append_assoc, arith}
use Rattle.std.specs.Prelude.{Option, Some, None, ◌&&◌, nat_lt}
use Rattle.std.specs.List.{AllByRecursion}
use Rattle.std.proofs.lemmas.Bool.Decides.{nat_tests}
use Rattle.mdp_templates.specs.Packet.{PacketContent, MessageContent}
use Rattle.mdp_templates.specs.declared.instrument.Instrument.{Instrument}
use Rattle.mdp_books.specs.declared.book.Book.{Book}
use Rattle.mdp_books.specs.Feed.{Sent, sent_as, sent_from, sent_in, sent_by, book_from, book_at, behind}
use Rattle.mdp_books.proofs.Feeds.{behind-append, behind-push, book_at-append}
use Rattle.mdp_engine.specs.Feed.{NumberedFrom, IsFeed}
use Rattle.mdp_desks.specs.Lines.{Seen}
use Rattle.mdp_engine.specs.Owed.{NumberedFooting, seen_at}
use Rattle.mdp_desks.specs.Shown.{book_since, seen_since}
use Rattle.mdp_desks.specs.Due.{is_printed}
use Rattle.mdp_engine.specs.Agreed.{footing_of}

-- ---- fronts of the feed

all_behind : (base k j : ℕ) (ms : List MessageContent) → nat_lt base k ≡ true → behind base (sent_from k j ms) ≡ sent_from k j ms
all_behind base k j [] is = refl
all_behind base k j (m ∷ ms) is =
    ap (λ (b : Bool). cond b (sent_as k j m ∷ behind base (sent_from k (j + 1) ms)) (behind base (sent_from k (j + 1) ms))) is
    ∙ ap (λ (t : List Sent). sent_as k j m ∷ t) (all_behind base k (j + 1) ms is)

none_behind : (base k j : ℕ) (ms : List MessageContent) → nat_lt base k ≡ false → behind base (sent_from k j ms) ≡ []
none_behind base k j [] is = refl
none_behind base k j (m ∷ ms) is =
    ap (λ (b : Bool). cond b (sent_as k j m ∷ behind base (sent_from k (j + 1) ms)) (behind base (sent_from k (j + 1) ms))) is
    ∙ none_behind base k (j + 1) ms is

-- packets from a number on stand behind each lower one
rest_behind : (ps : List PacketContent) (base k : ℕ) → NumberedFrom k ps → base < k → behind base (sent_by ps) ≡ sent_by ps
rest_behind [] base k is under = refl
rest_behind (p ∷ ps) base k is under =
    let here : nat_lt base p.number ≡ true = grind (arith, nat_tests, is.0) in
    behind-append base (sent_in p) (sent_by ps)
    ∙ ap (λ (t : List Sent). t ++ behind base (sent_by ps)) (all_behind base p.number 1 p.messages here)
    ∙ ap (λ (t : List Sent). sent_in p ++ t) (rest_behind ps base (k + 1) is.1 (omega arith))

numbered_take : (ps : List PacketContent) (k n : ℕ) → NumberedFrom k ps → NumberedFrom k (take n ps)
numbered_take ps k zero is = tt
numbered_take [] k (suc n) is = tt
numbered_take (p ∷ ps) k (suc n) is = (is.0, numbered_take ps (k + 1) n is.1)

-- a front is the packets up to a base, and what stands behind it
front_split : (ps : List PacketContent) (k b n : ℕ) → NumberedFrom (k + 1) ps → b ≤ n → sent_by (take n ps) ≡ sent_by (take b ps) ++ behind (k + b) (sent_by (take n ps))
front_split ps k zero n is le = sym (ap (λ (z : ℕ). behind z (sent_by (take n ps))) (omega arith) ∙ rest_behind (take n ps) k (k + 1) (numbered_take ps (k + 1) n is) (omega arith))
front_split [] k (suc b) zero is le = absurd (omega arith)
front_split [] k (suc b) (suc n) is le = refl
front_split (p ∷ ps) k (suc b) zero is le = absurd (omega arith)
front_split (p ∷ ps) k (suc b) (suc n) is le =
    let away : nat_lt (k + suc b) p.number ≡ false = grind (arith, nat_tests, is.0) in
    let same : k + suc b ≡ k + 1 + b = omega arith in
    let none : behind (k + suc b) (sent_in p ++ sent_by (take n ps)) ≡ behind (k + 1 + b) (sent_by (take n ps)) =
    behind-append (k + suc b) (sent_in p) (sent_by (take n ps)) ∙ ap (λ (t : List Sent). t ++ behind (k + suc b) (sent_by (take n ps))) (none_behind (k + suc b) p.number 1 p.messages away) ∙ ap (λ (z : ℕ). behind z (sent_by (take n ps))) same in
    ap (λ (t : List Sent). sent_in p ++ t) (front_split ps (k + 1) b n is.1 (omega arith))
    ∙ sym (append_assoc (sent_in p) (sent_by (take b ps)) (behind (k + 1 + b) (sent_by (take n ps))))
    ∙ ap (λ (t : List Sent). (sent_in p ++ sent_by (take b ps)) ++ t) (sym none)

-- nothing of a front stands behind a base that it does not pass
front_none : (ps : List PacketContent) (k b n : ℕ) → NumberedFrom (k + 1) ps → n ≤ b → behind (k + b) (sent_by (take n ps)) ≡ []
front_none ps k b zero is le = refl
front_none [] k b (suc n) is le = refl
front_none (p ∷ ps) k zero (suc n) is le = absurd (omega arith)
front_none (p ∷ ps) k (suc b) (suc n) is le =
    let away : nat_lt (k + suc b) p.number ≡ false = grind (arith, nat_tests, is.0) in
    let same : k + suc b ≡ k + 1 + b = omega arith in
    behind-append (k + suc b) (sent_in p) (sent_by (take n ps))
    ∙ ap (λ (t : List Sent). t ++ behind (k + suc b) (sent_by (take n ps))) (none_behind (k + suc b) p.number 1 p.messages away)
    ∙ ap (λ (z : ℕ). behind z (sent_by (take n ps))) same
    ∙ front_none ps (k + 1) b n is.1 (omega arith)

pub sent_by-split : (feed : List PacketContent) (base n : ℕ) → IsFeed feed → base ≤ n → sent_by (take n feed) ≡ sent_by (take base feed) ++ behind base (sent_by (take n feed))
sent_by-split feed base n is le =
    let same : 0 + base ≡ base = omega arith in
    front_split feed 0 base n is.numbered le ∙ ap (λ (z : ℕ). sent_by (take base feed) ++ behind z (sent_by (take n feed))) same

pub behind-front : (feed : List PacketContent) (base n : ℕ) → IsFeed feed → n ≤ base → behind base (sent_by (take n feed)) ≡ []
behind-front feed base n is le =
    let same : 0 + base ≡ base = omega arith in
    ap (λ (z : ℕ). behind z (sent_by (take n feed))) (sym same) ∙ front_none feed 0 base n is.numbered le

-- ---- what one packet shows

-- a security that hears a packet has heard all that stands behind its base
abbrev pub Heard : List PacketContent → ℕ → List Sent → NumberedFooting → Type 0
Heard feed k before i = nat_lt i.base k ≡ true → before ≡ sent_by (take i.base feed) ++ behind i.base before

abbrev seen_as : Instrument → Bool → Book → Option Seen
seen_as instrument printed book = Some (record { instrument = instrument; printed = printed; book = book })

behind-heard : (base : ℕ) (before : List Sent) (m : Sent) → nat_lt base m.packet ≡ true → behind base (before ++ m ∷ []) ≡ behind base before ++ m ∷ []
behind-heard base before m over = behind-push base before m ∙ ap (λ (b : Bool). cond b (behind base before ++ m ∷ []) (behind base before)) over

seen_case : (feed : List PacketContent) (before : List Sent) (m : Sent) (i : NumberedFooting) (e b : Bool) → nat_lt i.base m.packet ≡ b → Heard feed m.packet before i
    → cond (e && b) (seen_as i.instrument (is_printed i.instrument.id i.jumped (behind i.base before) m) (book_at i.instrument (before ++ m ∷ []))) None
    ≡ cond (e && b) (seen_as i.instrument (is_printed i.instrument.id i.jumped (behind i.base before) m) (book_since (footing_of feed i) (before ++ m ∷ []))) None
seen_case feed before m i false b over is = refl
seen_case feed before m i true false under is = refl
seen_case feed before m i true true over is =
    let listed = i.instrument in
    let head = sent_by (take i.base feed) in
    let h = behind i.base before in
    let book : book_at listed (before ++ m ∷ []) ≡ book_since (footing_of feed i) (before ++ m ∷ []) =
    ap (λ (t : List Sent). book_at listed (t ++ m ∷ [])) (is over)
    ∙ ap (book_at listed) (append_assoc head h (m ∷ []))
    ∙ book_at-append listed head (h ++ m ∷ [])
    ∙ ap (book_from listed (book_at listed head)) (sym (behind-heard i.base before m over)) in
    ap (λ (k : Book). seen_as listed (is_printed listed.id i.jumped h m) k) book

pub all_seen : (feed : List PacketContent) (before : List Sent) (m : Sent) (fs : List NumberedFooting) → AllByRecursion (Heard feed m.packet before) fs → map (seen_at before m) fs ≡ map (seen_since before m) (map (footing_of feed) fs)
all_seen feed before m [] is = refl
all_seen feed before m (i ∷ fs) is =
    ap (λ (s : Option Seen). s ∷ map (seen_at before m) fs) (seen_case feed before m i m.end (nat_lt i.base m.packet) refl is.0)
    ∙ ap (λ (t : List (Option Seen)). seen_since before m (footing_of feed i) ∷ t) (all_seen feed before m fs is.1)

pub heard_more : (feed : List PacketContent) (before : List Sent) (m : Sent) (fs : List NumberedFooting) → AllByRecursion (Heard feed m.packet before) fs → AllByRecursion (Heard feed m.packet (before ++ m ∷ [])) fs
heard_more feed before m [] is = tt
heard_more feed before m (i ∷ fs) is =
    let more : Heard feed m.packet (before ++ m ∷ []) i = λ over.
    ap (λ (t : List Sent). t ++ m ∷ []) (is.0 over)
    ∙ append_assoc (sent_by (take i.base feed)) (behind i.base before) (m ∷ [])
    ∙ ap (λ (t : List Sent). sent_by (take i.base feed) ++ t) (sym (behind-heard i.base before m over)) in
    (more, heard_more feed before m fs is.1)
