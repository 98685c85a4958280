-- A piece of a text that gives way to another, by two copies within one buffer.
use Rattle.std.proofs.Common.{◌≡◌, ◌≤◌, ◌+◌, ◌-◌, ℕ, List, ◌++◌, take, drop, length, refl, sym, ap, ◌∙◌, arith, length-take-le}
use Rattle.std.specs.List.{splice, copy_within}
use Rattle.std.proofs.Math.Seq.{paste, take-append-add, drop-append_seam, take-add}
use Rattle.std.proofs.lemmas.List.{take-take, take-append-le, drop-take, length-drop, take-append-drop}
use Rattle.std.proofs.lemmas.List.Edits.{paste_all, take-paste, length-paste}

-- what is copied to where it stands changes nothing
pub moved_nowhere : (xs : List ℕ) (from end to : ℕ) → to ≡ from → xs ≡ copy_within xs from end to
moved_nowhere xs from end to there =
    let kept = end - from in
    let front = ap (λ ys. ys ++ drop (from + kept) xs) (sym (take-add from kept xs)) in
    sym (ap (copy_within xs from end) there ∙ front ∙ take-append-drop (from + kept) xs)

-- Of a buffer whose first `end` bytes are a text: those behind `to` were moved to where the piece will end, and then the piece was
-- written from `from` on. So the text has the piece in the place of what stood there.
pub two_copies : (buffer moved written piece : List ℕ) (from to end : ℕ) → from ≤ to → to ≤ end → end ≤ length buffer → end + length piece ≤ length buffer + (to - from)
    → moved ≡ paste buffer (from + length piece) (drop to buffer) (end - to) → written ≡ paste moved from piece (length piece)
    → take (from + length piece + (end - to)) written ≡ splice (take end buffer) from to piece
two_copies buffer moved written piece from to end order inside whole room copied pasted =
    let size = length piece in
    let kept = end - to in
    let at = from + size in
    let last = drop to buffer in
    let enough : kept ≤ length last = omega (arith, length-drop to buffer) in
    let edge : length (take at buffer) ≡ at = length-take-le at buffer (omega arith) in
    let long : length moved ≡ length buffer = ap length copied ∙ length-paste buffer at last kept (omega arith) enough in
    let there : take (at + kept) moved ≡ take at buffer ++ take kept last = ap (take (at + kept)) copied ∙ take-paste buffer at last kept (omega arith) enough in
    let before : take from moved ≡ take from (take end buffer) =
    sym (take-take from (at + kept) moved (omega arith)) ∙ ap (take from) there ∙ take-append-le from (take at buffer) (take kept last) (omega (arith, edge))
    ∙ take-take from at buffer (omega arith) ∙ sym (take-take from end buffer (omega arith)) in
    let up_to : to + kept ≡ end = omega arith in
    let behind : take kept (drop at moved) ≡ drop to (take end buffer) =
    sym (drop-take at kept moved) ∙ ap (drop at) there ∙ ap (λ n. drop n (take at buffer ++ take kept last)) (sym edge) ∙ drop-append_seam (take at buffer) (take kept last)
    ∙ sym (drop-take to kept buffer) ∙ ap (λ n. drop to (take n buffer)) up_to in
    let start : length (take from moved) ≡ from = length-take-le from moved (omega (arith, long)) in
    let count : at + kept ≡ length (take from moved) + (size + kept) = omega (arith, start) in
    ap (take (at + kept)) (pasted ∙ paste_all moved from piece size refl)
    ∙ ap (λ n. take n (take from moved ++ (piece ++ drop at moved))) count
    ∙ take-append-add (take from moved) (piece ++ drop at moved) (size + kept)
    ∙ ap (λ ys. take from moved ++ ys) (take-append-add piece (drop at moved) kept)
    ∙ ap (λ ys. ys ++ (piece ++ take kept (drop at moved))) before
    ∙ ap (λ ys. take from (take end buffer) ++ (piece ++ ys)) behind
