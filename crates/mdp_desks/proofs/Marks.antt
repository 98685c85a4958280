-- A security's mark, message by message.
use Rattle.std.proofs.Common.{◌≡◌, ℤ, Bool, true, false, cond, List, [], ◌∷◌, ◌++◌, refl, ap, ◌∙◌}
use Rattle.std.specs.Prelude.{◌||◌, ◌&&◌, not}
use Rattle.mdp_books.specs.Feed.{Sent, is_named_in, since_end, touches, has_end}
use Rattle.mdp_books.proofs.Feeds.{or-false, since_end-push, touches-push, has_end-push}
use Rattle.mdp_desks.specs.Due.{is_due, is_printed}

pub or-true : (b : Bool) → (b || true) ≡ true
or-true true = refl
or-true false = refl

touched_or_ended : (id : ℤ) (h : List Sent) (m : Sent) (b : Bool) → touches id (cond b [] (since_end h ++ m ∷ [])) ≡ (not b && (touches id (since_end h) || is_named_in id m))
touched_or_ended id h m true = refl
touched_or_ended id h m false = touches-push id (since_end h) m

-- an event end clears what came before it: e tells whether m ends an event, t whether the security was touched
mark_mixed : (e t named jumped ended : Bool) → ((not e && (t || named)) || (jumped && not (ended || e))) ≡ (not e && ((t || (jumped && not ended)) || named))
mark_mixed true t named false ended = refl
mark_mixed true t named true true = refl
mark_mixed true t named true false = refl
mark_mixed false true named jumped ended = refl
mark_mixed false false named false ended = or-false named
mark_mixed false false named true true = or-false named
mark_mixed false false named true false = or-true named

-- the mark after one more message that is heard
pub is_due-push : (id : ℤ) (jumped : Bool) (h : List Sent) (m : Sent) → is_due id jumped (h ++ m ∷ []) ≡ (not m.end && is_printed id jumped h m)
is_due-push id jumped h m =
    let touched : touches id (since_end (h ++ m ∷ [])) ≡ (not m.end && (touches id (since_end h) || is_named_in id m)) = ap (touches id) (since_end-push h m) ∙ touched_or_ended id h m m.end in
    ap (λ (b : Bool). b || (jumped && not (has_end (h ++ m ∷ [])))) touched
    ∙ ap (λ (b : Bool). (not m.end && (touches id (since_end h) || is_named_in id m)) || (jumped && not b)) (has_end-push h m)
    ∙ mark_mixed m.end (touches id (since_end h)) (is_named_in id m) jumped (has_end h)
