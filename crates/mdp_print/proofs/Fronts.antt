-- What stands at the front of bytes that grow.
use Rattle.std.proofs.Common.{◌≡◌, ℕ, ◌≤◌, List, [], ◌∷◌, ◌++◌, take, drop, length, sym, ap, subst, ◌∙◌, append_assoc, length-append, length-take, arith}
use Rattle.std.proofs.Math.Seq.{take-append_seam}
use Rattle.std.proofs.lemmas.List.{take_all, take-append-drop, take-append-le, take-take}
use Rattle.mdp_print.specs.Pieces.{BeginsWith, BreaksOff}

-- what stands at the front stays there
pub begins_more : (before now more : List ℕ) → BeginsWith now before → BeginsWith (now ++ more) before
begins_more before now more front =
    let within : length before ≤ length now = omega (arith, ap length front, length-take (length before) now) in
    take-append-le (length before) now more within ∙ front

-- and so does the front of that front
pub begins_less : (before more now after : List ℕ) → now ≡ before ++ more → BeginsWith after now → BeginsWith after before
begins_less before more now after is front =
    let within : length before ≤ length now = omega (arith, ap length is, length-append before more) in
    sym (take-take (length before) (length now) after within) ∙ ap (take (length before)) (front ∙ is) ∙ take-append_seam before more

pub begins_first : (before now after : List ℕ) → BeginsWith now before → BeginsWith after now → BeginsWith after before
begins_first before now after first front =
    begins_less before (drop (length before) now) now after (sym (take-append-drop (length before) now) ∙ ap (λ (t : List ℕ). t ++ drop (length before) now) first) front

-- a front of a list is one behind the same bytes
pub begins_behind : (bytes whole front : List ℕ) → BeginsWith whole front → BeginsWith (bytes ++ whole) (bytes ++ front)
begins_behind [] whole front is = is
begins_behind (b ∷ bytes) whole front is = ap (λ (t : List ℕ). b ∷ t) (begins_behind bytes whole front is)

-- ---- a text that breaks off

-- nothing of it stands there
pub breaks_nowhere : (text before after : List ℕ) → after ≡ before → BreaksOff text before after
breaks_nowhere text before after same =
    subst (λ (t : List ℕ). BreaksOff text before t) (sym same)
    (record { kept = take_all (length before) before (omega arith); short = take-append_seam before text })

-- its second part does, behind the first
pub breaks_late : (first second before now after : List ℕ) → now ≡ before ++ first → BreaksOff second now after → BreaksOff (first ++ second) before after
breaks_late first second before now after is off = record {
  kept = begins_less before first now after is off.kept;
  short = subst (λ (t : List ℕ). BeginsWith t after) (ap (λ (t : List ℕ). t ++ second) is ∙ append_assoc before first second) off.short;
}

-- an item of it does, of which the rest is to come
pub breaks_within : (whole before now item rest after : List ℕ) → BeginsWith now before → (now ++ item) ++ rest ≡ before ++ whole → BreaksOff item now after → BreaksOff whole before after
breaks_within whole before now item rest after front is off = record {
  kept = begins_first before now after front off.kept;
  short = subst (λ (t : List ℕ). BeginsWith t after) is (begins_more after (now ++ item) rest off.short);
}
