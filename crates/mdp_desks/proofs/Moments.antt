-- Moments one after another: of two walks that show the same, and of moves behind moves.
use Rattle.std.proofs.Common.{◌≡◌, List, [], ◌∷◌, ◌++◌, refl, sym, ap, ◌∙◌, append_assoc}
use Rattle.std.specs.Prelude.{Option, fold}
use Rattle.std.proofs.lemmas.List.Sums.{fold-append}
use Rattle.std.specs.List.{AllByRecursion, flat_map}
use Rattle.std.proofs.lemmas.List.{append-nil}
use Rattle.std.proofs.lemmas.List.Concat.{flat_map-append}
use Rattle.mdp_templates.specs.declared.instrument.Instrument.{Instrument}
use Rattle.mdp_books.specs.Feed.{Sent}
use Rattle.mdp_arbiter.specs.Machine.{Move}
use Rattle.mdp_desks.specs.Lines.{Seen}
use Rattle.mdp_desks.specs.Shown.{SinceJump, since_after, since_through}
use Rattle.mdp_desks.specs.Moments.{Moment, Walk, moment_text, moment_at, moments_through, moments_of, moments, moments_on, moments_after, text_of_moments, shown_lines}

-- what two walks have in common: where they stand alike, a message of this kind shows the same of both, and they stand alike behind it
pub record Alike {S T : Type 0} (P : Sent → Type 0) (R : S → T → Type 0) (one : Walk S) (other : Walk T) : Type 0 where
  pub same : (m : Sent) (s : S) (t : T) → P m → R s t → one.shows m s ≡ other.shows m t
  pub on : (m : Sent) (s : S) (t : T) → P m → R s t → R (one.goes m s) (other.goes m t)

pub same_moments : {S T : Type 0} (P : Sent → Type 0) (R : S → T → Type 0) (one : Walk S) (other : Walk T)
    → Alike P R one other → (s : S) (t : T) (ms : List Sent) → AllByRecursion P ms → R s t
    → moments_through one s ms ≡ moments_through other t ms
same_moments P R one other alike s t [] are here = refl
same_moments P R one other alike s t (m ∷ ms) are here =
    ap (λ (seen : List (Option Seen)). moment_at m seen ++ moments_through one (one.goes m s) ms) (alike.same m s t are.0 here)
    ∙ ap (λ (rest : List Moment). moment_at m (other.shows m t) ++ rest) (same_moments P R one other alike (one.goes m s) (other.goes m t) ms are.1 (alike.on m s t are.0 here))

-- ---- moves behind moves

on-append : (listed : List Instrument) (s : SinceJump) (moves more : List Move) → moments_on listed s (moves ++ more) ≡ moments_on listed s moves ++ moments_on listed (fold (since_through listed) s moves) more
on-append listed s [] more = refl
on-append listed s (m ∷ moves) more =
    ap (λ (l : List Moment). moments_of s m ++ l) (on-append listed (since_through listed s m) moves more)
    ∙ sym (append_assoc (moments_of s m) (moments_on listed (since_through listed s m) moves) (moments_on listed (fold (since_through listed) s (m ∷ moves)) more))

pub moments-append : (listed : List Instrument) (before moves more : List Move) → moments_after listed before (moves ++ more) ≡ moments_after listed before moves ++ moments_after listed (before ++ moves) more
moments-append listed before moves more =
    on-append listed (since_after listed before) moves more
    ∙ ap (λ (s : SinceJump). moments_after listed before moves ++ moments_on listed s more) (sym (fold-append (since_through listed) (since_after listed []) before moves))

-- the text of moves begins the text of more moves
pub shown_lines-append : (listed : List Instrument) (moves more : List Move) → shown_lines listed (moves ++ more) ≡ shown_lines listed moves ++ text_of_moments (moments_after listed moves more)
shown_lines-append listed moves more =
    ap (flat_map moment_text) (moments-append listed [] moves more) ∙ flat_map-append moment_text (moments_after listed [] moves) (moments_after listed moves more)

pub moments-push : (listed : List Instrument) (moves : List Move) (move : Move) → moments listed (moves ++ move ∷ []) ≡ moments listed moves ++ moments_of (since_after listed moves) move
moments-push listed moves move =
    moments-append listed [] moves (move ∷ []) ∙ ap (λ (ms : List Moment). moments listed moves ++ ms) (append-nil (moments_of (since_after listed moves) move))
